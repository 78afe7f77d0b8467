-- Places of texts among keys that are vectors.
use Rattle.std.proofs.Common.{◌≡◌, ℕ, suc, ◌+◌, ◌||◌, Bool, true, false, cond, not, List, [], ◌∷◌, ◌++◌, map, length, Some, None, refl, ap, ◌∙◌, arith}
use Rattle.std.proofs.lemmas.List.{length-map, map-append}
use Rattle.std.specs.Prelude.{position, nat_lt, if◌then◌else◌}
use Rattle.std.specs.List.{list_any, prefix_len, position_or_len}
use Rattle.std.proofs.lemmas.Bool.Decides.{nat_tests}

prefix_len-map : {X Y : Type 0} (p : Y → Bool) (f : X → Y) (xs : List X) → prefix_len p (map f xs) ≡ prefix_len (λ x. p (f x)) xs
prefix_len-map p f [] = refl
prefix_len-map p f (x ∷ xs) = ap (λ n. cond (p (f x)) (1 + n) 0) (prefix_len-map p f xs)

-- a place in a mapped list is a place in the list
pub position-map : {X Y : Type 0} (p : Y → Bool) (f : X → Y) (xs : List X) → position p (map f xs) ≡ position (λ x. p (f x)) xs
position-map p f xs = rw (prefix_len-map (λ y. not (p y)) f xs, length-map) refl

any_step : (here there : Bool) (n m : ℕ) → there ≡ nat_lt n m → (here || there) ≡ nat_lt (cond (not here) (1 + n) 0) (suc m)
any_step true there n m e = grind (arith, nat_tests)
any_step false there n m e = e ∙ grind (arith, nat_tests)

any_is : {X : Type 0} (p : X → Bool) (xs : List X) → list_any p xs ≡ nat_lt (position_or_len p xs) (length xs)
any_is p [] = refl
any_is p (x ∷ xs) = any_step (p x) (list_any p xs) (position_or_len p xs) (length xs) (any_is p xs)

none_by : (b : Bool) (n : ℕ) → cond b (Some n) None ≡ None → b ≡ false
none_by true n e = absurd cc
none_by false n e = refl

-- where there is no place, no element passes
pub none_passes : {X : Type 0} (p : X → Bool) (xs : List X) → position p xs ≡ None → list_any p xs ≡ false
none_passes p xs e = any_is p xs ∙ none_by (nat_lt (position_or_len p xs) (length xs)) (position_or_len p xs) e

pub ruleset place_rules = (position-map, none_passes)

-- a key that no place is found for goes last
pub pushed : {V : Type 0} (items : V → List ℕ) (is : V → Bool) (text : List ℕ) (keys after : List V) (key : V) → position (λ v. is v) keys ≡ None
    → after ≡ (if list_any is keys then keys else keys ++ key ∷ []) → items key ≡ text → map items after ≡ map items keys ++ text ∷ []
pushed items is text keys after key none e same =
    let last : after ≡ keys ++ key ∷ [] = rw (none_passes is keys none) at e in
    rw (last, map-append items keys (key ∷ []), same) refl
