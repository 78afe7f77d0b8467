use Rattle.std.proofs.Common.{arith, refl, true, false}
use Rattle.ssi_eval.proofs.HandMade.{all, before, bit, fact, group, hand_made, last, or, or_last}
use Rattle.ssi_eval.proofs.tests.one_alternative_holds.Goals as goal

-- `(1 h or L2 s or (L1 xs, L3 s)), 7 l`
pub value-holds-requires-clause-code : goal.value-holds-requires-clause-code
value-holds-requires-clause-code g c =
    let one_high = all (last (bit 1 true refl)) refl in
    let second = all (last (fact 1 true refl)) refl in
    let not_first = all (before (fact 0 false refl) (last (fact 2 true refl))) refl in
    hand_made (all (before (group (or one_high (or second (or_last not_first))) refl) (last (bit 7 false refl))) refl) (omega arith) (omega arith)
