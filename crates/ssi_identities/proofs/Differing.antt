-- Numbers that differ, one after another.
use Rattle.std.proofs.Common.{◌≡◌, refl, sym, subst, ℕ, ◌+◌, ◌<◌, ◌≤◌, arith, ◌==◌, Bool, false, List, [], ◌∷◌, length, drop, get_or, map}
use Rattle.std.specs.List.{AllByRecursion, IsDistinct, list_any}
use Rattle.std.proofs.lemmas.Bool.{or_from, or_parts}
use Rattle.std.proofs.lemmas.List.{drop_all, drop_more}
use Rattle.std.proofs.lemmas.Map.Keys.{IsDistinct-cons, IsDistinct-from_apart, IsDistinct-head, IsDistinct-tail}

module _ {X : Type 0} (number : X → ℕ) where
  -- the numbers of these differ
  abbrev pub Differ : List X → Type 0
  Differ xs = IsDistinct (λ a b. a == b) (map number xs)

  -- whether one of these has the number
  abbrev pub one_has : ℕ → List X → Bool
  one_has n xs = list_any (λ x. n == number x) xs

  others_differ : (n : ℕ) (xs : List X) → one_has n xs ≡ false → AllByRecursion (λ m. (n == m) ≡ false) (map number xs)
  others_differ n [] none = tt
  others_differ n (x ∷ xs) none = let parts = or_parts (n == number x) (one_has n xs) none in (parts.0, others_differ n xs parts.1)

  none_has : (n : ℕ) (xs : List X) → AllByRecursion (λ m. (n == m) ≡ false) (map number xs) → one_has n xs ≡ false
  none_has n [] others = refl
  none_has n (x ∷ xs) others = or_from (n == number x) (one_has n xs) others.0 (none_has n xs others.1)

  -- from a place on they differ where they do from the next on, if none of those has the number at the place
  pub differ_with : (xs : List X) (i : ℕ) (d : X) → i < length xs → one_has (number (get_or xs i d)) (drop (i + 1) xs) ≡ false → Differ (drop (i + 1) xs) → Differ (drop i xs)
  differ_with xs i d within none differ =
      subst Differ (sym (drop_more xs i d within)) (IsDistinct-cons (λ a b. a == b) (number (get_or xs i d)) (map number (drop (i + 1) xs)) (others_differ (number (get_or xs i d)) (drop (i + 1) xs) none) differ)

  -- if they differ from a place on, they do from the next on
  pub differ_after : (xs : List X) (i : ℕ) (d : X) → i < length xs → Differ (drop i xs) → Differ (drop (i + 1) xs)
  differ_after xs i d within differ = IsDistinct-tail (λ a b. a == b) (number (get_or xs i d)) (map number (drop (i + 1) xs)) (subst Differ (drop_more xs i d within) differ)

  -- and none of those has the number at the place
  pub none_after : (xs : List X) (i : ℕ) (d : X) → i < length xs → Differ (drop i xs) → one_has (number (get_or xs i d)) (drop (i + 1) xs) ≡ false
  none_after xs i d within differ =
      none_has (number (get_or xs i d)) (drop (i + 1) xs) (IsDistinct-head (λ a b. a == b) (number (get_or xs i d)) (map number (drop (i + 1) xs)) (subst Differ (drop_more xs i d within) differ))

  -- past the last they differ
  pub differ_past : (xs : List X) (i : ℕ) → length xs ≤ i → Differ (drop i xs)
  differ_past xs i past = subst Differ (sym (drop_all i xs past)) (IsDistinct-from_apart (λ a b. a == b) [] (λ j k d before within. absurd (omega arith)))
