use Rattle.std.proofs.Common.{◌≡◌, ◌≤◌, length, map, take, drop}
use Rattle.ssi_names.specs.Rows.{body, module_row}
use Rattle.ssi_names.specs.Tables.{table_of}
use Rattle.ssi_names.proofs.placing.module_rows.Given as goal

abbrev pub invariant-loop-body : goal.invariant-loop-body
invariant-loop-body l = record {
  few : length l.bodies.items ≤ length l.inputs;
  left : l.bodies.items ≡ map (λ entry. body l.text (table_of l.tables) entry.1) (take (length l.bodies.items) l.inputs);
  told : l.rows.items ≡ map (module_row l.text (table_of l.tables) l.outputs (drop (length l.bodies.items) l.inputs)) l.entries;
}

abbrev pub decreases-loop-body : goal.decreases-loop-body
decreases-loop-body l = length l.bodies.items
