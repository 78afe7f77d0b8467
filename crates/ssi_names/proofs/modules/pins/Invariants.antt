use Rattle.std.proofs.Common.{◌≡◌, ◌++◌, [], map, take}
use Rattle.std.specs.Prelude.{fold}
use Rattle.ssi_names.specs.Declarations.{names_at}
use Rattle.ssi_names.specs.Faults.{pin_faults}
use Rattle.ssi_names.specs.NameLists.{is_among, with_name}
use Rattle.ssi_names.specs.Occurrences.{in_order}
use Rattle.ssi_names.specs.Tables.{known_by}
use Rattle.ssi_names.specs.Texts.{number}
use Rattle.ssi_names.proofs.Marks.{IsMarked}
use Rattle.ssi_names.proofs.modules.pins.Given as goal

abbrev pub invariant-loop-name : goal.invariant-loop-name
invariant-loop-name l = record {
  faults : l.faults.items ≡ l.fn.faults.items
      ++ in_order (pin_faults (known_by l.text l.tables) l.kind l.count (λ name. is_among name l.fn.seen)) [] (take l.name-index l.entries);
  seen : l.seen ≡ fold with_name l.fn.seen (names_at l.text (take l.name-index l.entries));
  used : IsMarked 8 l.used (map (λ e. number l.text e.1) (take l.name-index l.entries));
}
