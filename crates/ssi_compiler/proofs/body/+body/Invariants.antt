use Rattle.std.proofs.Common.{◌≡◌, ◌++◌, ◌+◌, ◌*◌, length, map, drop, option_map}
use Rattle.std.specs.List.{concat}
use Rattle.ssi_identities.specs.Codes.{code_of_body, code_of_part, else_code}
use Rattle.ssi_compiler.proofs.body.+body.Given as goal

-- what is written, and the code of the items that are left, is the whole
abbrev pub invariant-write_body-loop-item : goal.invariant-write_body-loop-item
invariant-write_body-loop-item l = l.code.items ++ concat (map code_of_part (drop l.item-index l.item-items)) ≡ l.fn.code.items ++ code_of_body l.body

-- each call writes a part
abbrev pub decreases-write_body : goal.decreases-write_body
decreases-write_body l = 4 * length (code_of_body l.body.now) + 1

abbrev pub decreases-write_branch : goal.decreases-write_branch
decreases-write_branch l = 4 * length (code_of_body l.body.now) + 2

abbrev pub decreases-write_else : goal.decreases-write_else
decreases-write_else l = 4 * length (else_code (option_map code_of_body l.body.now)) + 3

abbrev pub decreases-write_item : goal.decreases-write_item
decreases-write_item l = 4 * length (code_of_part l.item.now)
