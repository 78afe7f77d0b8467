use Rattle.std.proofs.Common.{◌<◌, length, true, false, ap, sym, ◌∙◌, rules}
use Rattle.ssi_identities.specs.DataSets.{PointsPlan}
use Rattle.ssi_names.specs.Placing.{changed_at, with_move}
use Rattle.ssi_names.proofs.Told.{written}
use Rattle.ssi_names.proofs.placing.tell_move.Goals as goal

pub returns-then-reverse : goal.returns-then-reverse
returns-then-reverse c =
    let cond = c.args.cond in
    let rows = c.args.rows.now.items in
    let change = λ (row : PointsPlan). with_move row c.args.reverse cond in
    let was = c.index_mut-row.result.now in
    let within : c.in-Some.place < length rows = search rules in
    let made = ap (λ (row : PointsPlan). with_move row true cond) c.row.view_is ∙ ap (λ b. with_move was b cond) (sym c.if-reverse.true) in
    written change c.in-Some.place rows was _ within c.index_mut-row.ensures.value made ∙ ap (λ at. changed_at change at rows) (sym c.in-Some.is)

pub returns-else-reverse : goal.returns-else-reverse
returns-else-reverse c =
    let cond = c.args.cond in
    let rows = c.args.rows.now.items in
    let change = λ (row : PointsPlan). with_move row c.args.reverse cond in
    let was = c.index_mut-row.result.now in
    let within : c.in-Some.place < length rows = search rules in
    let made = ap (λ (row : PointsPlan). with_move row false cond) c.row.view_is ∙ ap (λ b. with_move was b cond) (sym c.if-reverse.false) in
    written change c.in-Some.place rows was _ within c.index_mut-row.ensures.value made ∙ ap (λ at. changed_at change at rows) (sym c.in-Some.is)
