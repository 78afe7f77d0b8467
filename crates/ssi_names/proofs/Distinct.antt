-- Names that differ, and their places in a list that has them.
use Rattle.std.proofs.Common.{◌≡◌, ℕ, suc, ◌+◌, ◌<◌, ◌||◌, Bool, true, false, cond, not, List, [], ◌∷◌, ◌++◌, map, length, refl, ap, sym, ◌∙◌, arith}
use Rattle.std.specs.Prelude.{◌==◌}
use Rattle.std.specs.List.{AllByRecursion, IsDistinct, position_or_len}
use Rattle.std.specs.Str.{bytes_eq}
use Rattle.std.proofs.lemmas.Bool.Decides.{nat_tests}
use Rattle.std.proofs.lemmas.List.Folds.{list_any-append}
use Rattle.std.proofs.lemmas.Slice.Eq.{bytes_eq-Decides}
use Rattle.ssi_names.specs.NameLists.{is_among}
use Rattle.ssi_names.proofs.Sets.{or_false}

-- a test that neither of two passes
pub both_false : (a b : Bool) → (a || b) ≡ false → (a ≡ false) × (b ≡ false)
both_false true b e = absurd cc
both_false false b e = (refl, e)

other_way_by : (a b : List ℕ) (same : Bool) → bytes_eq b a ≡ same → bytes_eq a b ≡ false → same ≡ false
other_way_by a b false is e = refl
other_way_by a b true is e =
    let equal : b ≡ a = (bytes_eq-Decides b a).0 is in
    sym is ∙ ap (λ text. bytes_eq text a) equal ∙ ap (bytes_eq a) (sym equal) ∙ e

-- names that differ differ the other way too
pub other_way : (a b : List ℕ) → bytes_eq a b ≡ false → bytes_eq b a ≡ false
other_way a b e = other_way_by a b (bytes_eq b a) refl e

-- none of the names is among those before
abbrev pub NoneAmong : List (List ℕ) → List (List ℕ) → Type 0
NoneAmong before names = AllByRecursion (λ name. is_among name before ≡ false) names

-- the last of those before differs from each of the names
pub with_last : (before names : List (List ℕ)) (last : List ℕ) → NoneAmong (before ++ last ∷ []) names
    → NoneAmong before names × AllByRecursion (λ name. bytes_eq last name ≡ false) names
with_last before [] last none = (tt, tt)
with_last before (name ∷ names) last none =
    let split : (is_among name before || bytes_eq name last) ≡ false =
    sym (list_any-append (bytes_eq name) before (last ∷ []) ∙ ap (λ b. is_among name before || b) (or_false (bytes_eq name last))) ∙ none.0
    in
    let parts = both_false (is_among name before) (bytes_eq name last) split in
    let rest = with_last before names last none.1 in
    ((parts.0, rest.0), (other_way name last parts.1, rest.1))

below_by : (here there : Bool) (n m : ℕ) → (here || there) ≡ true → (there ≡ true → n < m) → cond (not here) (1 + n) 0 < suc m
below_by true there n m found below = grind arith
below_by false there n m found below = let b : n < m = below found in omega arith

-- a name that is there has its place below the count
pub place_below : (names : List (List ℕ)) (name : List ℕ) → is_among name names ≡ true → position_or_len (bytes_eq name) names < length names
place_below [] name found = absurd cc
place_below (n ∷ names) name found =
    below_by (bytes_eq name n) (is_among name names) (position_or_len (bytes_eq name) names) (length names) found (place_below names name)

place_tells_by : (x y n : List ℕ) (here other there : Bool) (p q : ℕ) → bytes_eq x n ≡ here → bytes_eq y n ≡ other → (here || there) ≡ true
    → cond (not here) (1 + p) 0 ≡ cond (not other) (1 + q) 0 → (there ≡ true → p ≡ q → x ≡ y) → x ≡ y
place_tells_by x y n true true there p q is also found same rest = (bytes_eq-Decides x n).0 is ∙ sym ((bytes_eq-Decides y n).0 also)
place_tells_by x y n true false there p q is also found same rest = absurd (omega arith)
place_tells_by x y n false true there p q is also found same rest = absurd (omega arith)
place_tells_by x y n false false there p q is also found same rest = rest found (omega arith)

-- names with one place are one
pub place_tells : (names : List (List ℕ)) (x y : List ℕ) → is_among x names ≡ true → position_or_len (bytes_eq x) names ≡ position_or_len (bytes_eq y) names → x ≡ y
place_tells [] x y found same = absurd cc
place_tells (n ∷ names) x y found same =
    place_tells_by x y n (bytes_eq x n) (bytes_eq y n) (is_among x names) (position_or_len (bytes_eq x) names) (position_or_len (bytes_eq y) names) refl refl found same
    (place_tells names x y)

pub differ_by : (x y : List ℕ) (p q : ℕ) (same : Bool) → (p == q) ≡ same → bytes_eq x y ≡ false → (p ≡ q → x ≡ y) → same ≡ false
differ_by x y p q false is differ one = refl
differ_by x y p q true is differ one =
    let equal : p ≡ q = grind (arith, nat_tests) in
    sym ((bytes_eq-Decides x y).1 (one equal)) ∙ differ

-- a name that is there has another place than each name that differs from it
other_places : (names : List (List ℕ)) (x : List ℕ) (ys : List (List ℕ)) → is_among x names ≡ true → AllByRecursion (λ y. bytes_eq x y ≡ false) ys
    → AllByRecursion (λ n. (position_or_len (bytes_eq x) names == n) ≡ false) (map (λ y. position_or_len (bytes_eq y) names) ys)
other_places names x [] found differ = tt
other_places names x (y ∷ ys) found differ = (
  differ_by x y (position_or_len (bytes_eq x) names) (position_or_len (bytes_eq y) names) (position_or_len (bytes_eq x) names == position_or_len (bytes_eq y) names) refl differ.0
      (place_tells names x y found),
  other_places names x ys found differ.1,
)

-- names that are there and differ have places that differ
pub places_differ : (names xs : List (List ℕ)) → AllByRecursion (λ x. is_among x names ≡ true) xs → IsDistinct bytes_eq xs
    → IsDistinct (λ a b. a == b) (map (λ x. position_or_len (bytes_eq x) names) xs)
unfolding IsDistinct
places_differ names [] found differ = tt
places_differ names (x ∷ xs) found differ = (other_places names x xs found.0 differ.0, places_differ names xs found.1 differ.1)
