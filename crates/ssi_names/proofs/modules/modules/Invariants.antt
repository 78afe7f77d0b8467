use Rattle.std.proofs.Common.{◌≡◌, ◌++◌, [], map, take}
use Rattle.ssi_names.specs.Declarations.{pins_of, names_at}
use Rattle.ssi_names.specs.Faults.{module_faults}
use Rattle.ssi_names.specs.NameLists.{set_of}
use Rattle.ssi_names.specs.Occurrences.{in_order}
use Rattle.ssi_names.specs.Tables.{known_by}
use Rattle.ssi_names.specs.Texts.{number}
use Rattle.ssi_names.proofs.Marks.{IsMarked}
use Rattle.ssi_names.proofs.modules.modules.Given as goal

abbrev pub invariant-loop-entry : goal.invariant-loop-entry
invariant-loop-entry l = record {
  faults : l.faults.items ≡ l.fn.faults.items ++ in_order (module_faults (known_by l.text l.tables)) [] (take l.entry-index l.entries);
  seen : l.seen ≡ set_of (names_at l.text (pins_of (take l.entry-index l.entries)));
  used : IsMarked 64 l.used (map (λ e. number l.text e.address) (take l.entry-index l.entries));
}
