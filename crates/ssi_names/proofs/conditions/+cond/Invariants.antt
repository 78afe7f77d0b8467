use Rattle.std.proofs.Common.{◌≡◌, ◌++◌, map, take, drop}
use Rattle.ssi_names.specs.Occurrences.{one_by_one}
use Rattle.ssi_names.specs.Scopes.{item_faults, item_row, cond_faults, cond_row}
use Rattle.ssi_names.proofs.conditions.+cond.Given as goal

abbrev pub invariant-group-loop-tree : goal.invariant-group-loop-tree
invariant-group-loop-tree l = record {
  faults : l.faults.items ++ one_by_one (map (cond_faults l.scope) (drop l.tree-index l.conds)) ≡ l.fn.faults.items ++ one_by_one (map (cond_faults l.scope) l.conds);
  rows : l.rows ≡ map (cond_row l.scope) (take l.tree-index l.conds);
}

abbrev pub invariant-cond-loop-part : goal.invariant-cond-loop-part
invariant-cond-loop-part l = record {
  faults : l.faults.items ++ one_by_one (map (item_faults l.scope) (drop l.part-index l.part-items)) ≡ l.fn.faults.items ++ one_by_one (map (item_faults l.scope) l.tree.items);
  rows : l.items ≡ map (item_row l.scope) (take l.part-index l.part-items);
}
