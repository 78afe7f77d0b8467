use Rattle.std.proofs.Common.{◌≡◌, take}
use Rattle.std.specs.Prelude.{fold}
use Rattle.ssi_names.specs.Declarations.{names_at, pins_of}
use Rattle.ssi_names.specs.NameLists.{with_name}
use Rattle.ssi_names.proofs.tables.add_wired.Given as goal

abbrev pub invariant-loop-entry : goal.invariant-loop-entry
invariant-loop-entry l = l.names ≡ fold with_name l.fn.names (names_at l.text (pins_of (take l.entry-index l.modules)))
