use Rattle.std.proofs.Common.{◌≡◌, ◌∷◌, ◌++◌, [], map, take, drop}
use Rattle.ssi_names.specs.Codes.{too_many}
use Rattle.ssi_names.specs.Scopes.{commands_faults, command_row}
use Rattle.ssi_names.proofs.bodies.commands.Given as goal

abbrev pub invariant-loop-tree : goal.invariant-loop-tree
invariant-loop-tree l = record {
  faults : l.faults.items ++ commands_faults l.scope ((l.past, too_many) ∷ []) (drop l.tree-index l.trees) ≡ l.fn.faults.items ++ commands_faults l.scope ((l.many, too_many) ∷ []) l.trees;
  rows : l.rows.items ≡ map (command_row l.scope) (take l.tree-index l.trees);
}
