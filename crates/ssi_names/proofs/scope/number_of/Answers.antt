use Rattle.std.proofs.Common.{length, ap, sym, ◌∙◌}
use Rattle.std.specs.List.{position_or_len}
use Rattle.std.specs.Str.{bytes_eq}
use Rattle.ssi_names.specs.Scopes.{numbers_by}
use Rattle.ssi_names.specs.Tables.{table_of}
use Rattle.ssi_names.proofs.Lists.{absent_place}
use Rattle.ssi_names.proofs.scope.number_of.Goals as goal

pub returns-in-Some-None : goal.returns-in-Some-None
returns-in-Some-None c =
    let used = c.args.used.now in
    let names = table_of c.args.scope.now.tables.now in
    let name = used.name.now in
    c.len.ensures ∙ ap length c.table.ensures ∙ absent_place (bytes_eq name) (names used.kind) (sym c.requires.place ∙ c.in-Some-None.is-1)
    ∙ ap (λ kind. position_or_len (bytes_eq name) (names kind)) c.requires.kind ∙ sym (ap (λ counts. numbers_by counts names name) c.in-Some-None.is-0)
