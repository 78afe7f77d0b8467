use Rattle.std.proofs.Common.{arith, refl, true, false}
use Rattle.ssi_eval.proofs.HandMade.{all, before, fact, hand_made, last}
use Rattle.ssi_eval.proofs.tests.both_tests_hold.Goals as goal

-- `L1 s, L4 xs`
pub value-requires-clause-code : goal.value-requires-clause-code
value-requires-clause-code g c = hand_made (all (before (fact 0 true refl) (last (fact 3 false refl))) refl) (omega arith) (omega arith)
