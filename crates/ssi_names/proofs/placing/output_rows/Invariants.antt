use Rattle.std.proofs.Common.{◌≡◌, ◌≤◌, [], length, map, take, drop}
use Rattle.ssi_names.specs.Rows.{module_row, outputs_row}
use Rattle.ssi_names.specs.Tables.{table_of}
use Rattle.ssi_names.proofs.placing.output_rows.Given as goal

abbrev pub invariant-loop-row : goal.invariant-loop-row
invariant-loop-row l =
    let bits = map (λ row. row.items) l.bits.items in
    record {
      few : length bits ≤ length l.outputs;
      left : bits ≡ map (outputs_row l.text (table_of l.tables)) (take (length bits) l.outputs);
      told : l.rows.items ≡ map (module_row l.text (table_of l.tables) (drop (length bits) l.outputs) []) l.entries;
    }

abbrev pub decreases-loop-row : goal.decreases-loop-row
decreases-loop-row l = length l.bits.items
