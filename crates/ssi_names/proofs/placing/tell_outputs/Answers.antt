use Rattle.std.proofs.Common.{◌<◌, length, ap, sym, ◌∙◌, rules}
use Rattle.ssi_identities.specs.DataSets.{ModulePlan}
use Rattle.ssi_names.specs.Placing.{changed_at, with_outputs}
use Rattle.ssi_names.proofs.Told.{written}
use Rattle.ssi_names.proofs.placing.tell_outputs.Goals as goal

pub returns-in-Some : goal.returns-in-Some
returns-in-Some c =
    let rows = c.args.rows.now.items in
    let change = λ (row : ModulePlan). with_outputs row c.args.outputs.items in
    let within : c.in-Some.place < length rows = search rules in
    written change c.in-Some.place rows c.index_mut-row.result.now _ within c.index_mut-row.ensures.value (ap change c.row.view_is) ∙ ap (λ at. changed_at change at rows) (sym c.in-Some.is)
