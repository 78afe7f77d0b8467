use Rattle.std.proofs.Common.{◌≡◌, map, take}
use Rattle.std.specs.Prelude.{fold}
use Rattle.ssi_names.specs.NameLists.{with_name}
use Rattle.ssi_names.specs.Texts.{characters}
use Rattle.ssi_names.proofs.tables.add_names.Given as goal

abbrev pub invariant-loop-entry : goal.invariant-loop-entry
invariant-loop-entry g l = l.names ≡ fold with_name l.fn.names (map (λ entry. characters l.text (g.X.Named.name_of entry)) (take l.entry-index l.entries))
