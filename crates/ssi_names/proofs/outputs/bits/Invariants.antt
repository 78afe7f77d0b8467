use Rattle.std.proofs.Common.{◌≡◌, ◌++◌, [], None, map, replicate, take}
use Rattle.std.specs.Prelude.{fold}
use Rattle.ssi_names.specs.Faults.{output_bit_faults}
use Rattle.ssi_names.specs.Occurrences.{in_order}
use Rattle.ssi_names.specs.Scopes.{known, with_output}
use Rattle.ssi_names.specs.Texts.{number}
use Rattle.ssi_names.proofs.Marks.{IsMarked}
use Rattle.ssi_names.proofs.outputs.bits.Given as goal

abbrev pub invariant-loop-number : goal.invariant-loop-number
invariant-loop-number l = record {
  faults : l.faults.items
      ≡ l.fn.faults.items ++ in_order (output_bit_faults (known l.scope)) [] (take l.number-index l.entries);
  used : IsMarked 8 l.used (map (λ e. number l.scope.text.now e.0) (take l.number-index l.entries));
  row : l.row.items ≡ fold (with_output l.scope) (replicate 8 None) (take l.number-index l.entries);
}
