use Rattle.std.proofs.Common.{arith, refl, true}
use Rattle.ssi_eval.proofs.HandMade.{all, fact, hand_made, last, round}
use Rattle.ssi_eval.proofs.tests.eight_groups_lie_in_one_another.Goals as goal

-- eight times `(.. or L4 s), L2 s`, and `L1 s` in the innermost
pub value-requires-clause-code : goal.value-requires-clause-code
value-requires-clause-code g c = hand_made (round (round (round (round (round (round (round (round (all (last (fact 0 true refl)) refl))))))))) (omega arith) (omega arith)
