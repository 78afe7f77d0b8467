-- Tests that go over a list.
use Rattle.std.proofs.Common.{◌≡◌, ◌↔◌, refl, ap, sym, ◌∙◌, ℕ, ◌+◌, ◌<◌, ◌≤◌, Bool, IsTrue, true, false, not, ◌&&◌, List, [], ◌∷◌, length, drop, get_or, arith}
use Rattle.std.specs.Prelude.{nat_le}
use Rattle.std.specs.List.{IsDistinct, list_all}
use Rattle.std.proofs.lemmas.Map.Keys.{IsDistinct-from_apart}
use Rattle.std.proofs.lemmas.List.{at_drop_all, at_drop_more, get_or_default}
use Rattle.std.proofs.lemmas.Bool.{and_left, not_from_true, false_from_ne_true}
use Rattle.std.proofs.lemmas.Bool.Decides.{nat_tests}

module _ {X : Type 0} (p : X → Bool) (all xs : List X) (i : ℕ) (so_far : list_all p (drop i xs) ≡ list_all p all) where
  -- going over a list: where an element fails the test, not all pass it
  pub one_fails : (x : X) → i < length xs → x ≡ get_or xs i x → p x ≡ false → list_all p all ≡ false
  one_fails x within is fails = sym so_far ∙ at_drop_more (list_all p) xs i x within ∙ and_left (p (get_or xs i x)) (list_all p (drop (i + 1) xs)) (ap p (sym is) ∙ fails)

  -- past the last, all have passed it
  pub all_passed : length xs ≤ i → list_all p all ≡ true
  all_passed past = sym so_far ∙ at_drop_all (list_all p) xs i past

-- a test of there being no element
pub some_element : {X : Type 0} (none : Bool) (xs : List X) → (IsTrue none ↔ (xs ≡ [])) → not none ≡ nat_le 1 (length xs)
some_element none [] empty = not_from_true none (empty.1 refl)
some_element none (x ∷ xs) empty = ap not (false_from_ne_true none (λ is. absurd (let e = empty.0 is in cc))) ∙ grind (arith, nat_tests)

-- where the last of two tests passes, the first decides
pub and_passed : (first last : Bool) → last ≡ true → (first && last) ≡ first
and_passed true last passed = passed
and_passed false last passed = refl

-- elements differ where each differs from those after it, read with a default of one's own
pub differ_by_places : {K : Type 0} (same : K → K → Bool) (ks : List K) (d : K) → ((i j : ℕ) → i < j → j < length ks → same (get_or ks i d) (get_or ks j d) ≡ false) → IsDistinct same ks
differ_by_places same ks d apart = IsDistinct-from_apart same ks (λ i j other before within.
    ap (λ k. same k (get_or ks j other)) (get_or_default ks i other d (omega arith)) ∙ ap (same (get_or ks i d)) (get_or_default ks j other d within) ∙ apart i j before within)
