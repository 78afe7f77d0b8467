use Rattle.std.proofs.Common.{◌≡◌, ◌++◌, map, take, drop}
use Rattle.ssi_names.specs.Occurrences.{one_by_one}
use Rattle.ssi_names.specs.Scopes.{part_faults, part_row}
use Rattle.ssi_names.proofs.bodies.+body.Given as goal

abbrev pub invariant-body-loop-piece : goal.invariant-body-loop-piece
invariant-body-loop-piece l = record {
  faults : l.faults.items ++ one_by_one (map (part_faults l.scope) (drop l.piece-index l.piece-items)) ≡ l.fn.faults.items ++ one_by_one (map (part_faults l.scope) l.tree.parts);
  rows : l.items ≡ map (part_row l.scope) (take l.piece-index l.piece-items);
}
