use Rattle.std.proofs.Common.{◌≡◌, ◌≤◌, length, map, take, drop}
use Rattle.ssi_names.specs.Rows.{condition, points_row}
use Rattle.ssi_names.specs.Tables.{table_of}
use Rattle.ssi_names.proofs.placing.points_rows.Given as goal

abbrev pub invariant-loop-cond : goal.invariant-loop-cond
invariant-loop-cond l = record {
  few : length l.moves.items ≤ length l.rules;
  left : l.moves.items ≡ map (λ rule. condition l.text (table_of l.tables) rule.2) (take (length l.moves.items) l.rules);
  told : l.rows.items ≡ map (points_row l.text (table_of l.tables) (drop (length l.moves.items) l.rules)) l.entries;
}

abbrev pub decreases-loop-cond : goal.decreases-loop-cond
decreases-loop-cond l = length l.moves.items
