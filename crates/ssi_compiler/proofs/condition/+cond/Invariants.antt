use Rattle.std.proofs.Common.{◌≡◌, ◌++◌, ◌+◌, ◌*◌, length, map, drop}
use Rattle.std.specs.List.{concat}
use Rattle.ssi_identities.specs.Codes.{code_of_cond, code_of_item, with_length}
use Rattle.ssi_compiler.proofs.condition.+cond.Given as goal

-- what is written, and the code of the items that are left, is the whole
abbrev pub invariant-write_cond-loop-item : goal.invariant-write_cond-loop-item
invariant-write_cond-loop-item l = l.code.items ++ concat (map code_of_item (drop l.item-index l.item-items)) ≡ l.fn.code.items ++ code_of_cond l.cond

-- likewise for alternatives
abbrev pub invariant-write_alternatives-loop-cond : goal.invariant-write_alternatives-loop-cond
invariant-write_alternatives-loop-cond l =
    l.code.items ++ concat (map with_length (map code_of_cond (drop l.cond-index l.alternatives))) ≡ l.fn.code.items ++ concat (map with_length (map code_of_cond l.alternatives))

-- each call writes a part
abbrev pub decreases-write_cond : goal.decreases-write_cond
decreases-write_cond l = 4 * length (code_of_cond l.cond.now) + 1

abbrev pub decreases-write_cond_with_length : goal.decreases-write_cond_with_length
decreases-write_cond_with_length l = 4 * length (code_of_cond l.cond.now) + 2

abbrev pub decreases-write_item : goal.decreases-write_item
decreases-write_item l = 4 * length (code_of_item l.item.now)

abbrev pub decreases-write_alternatives : goal.decreases-write_alternatives
decreases-write_alternatives l = 4 * length (concat (map with_length (map code_of_cond l.alternatives.now)))
