-- What entries say of others by their names, told one entry after another, from the last to the first.
use Rattle.std.proofs.Common.{◌≡◌, ℕ, zero, suc, ◌+◌, ◌<◌, ◌≤◌, Bool, true, false, cond, not, List, [], ◌∷◌, ◌++◌, map, length, take, drop, get_or, Some, None, refl, ap, sym, subst, ◌∙◌, arith}
use Rattle.std.specs.Prelude.{position, nat_lt, slice_set}
use Rattle.std.specs.List.{AllByRecursion, IsDistinct, position_or_len}
use Rattle.std.specs.Str.{bytes_eq}
use Rattle.std.proofs.lemmas.Bool.Decides.{nat_tests}
use Rattle.std.proofs.lemmas.List.{length-append, length-map, map_more, drop_more, same_from_push}
use Rattle.std.proofs.lemmas.Slice.Eq.{bytes_eq-Decides}
use Rattle.ssi_names.specs.Placing.{ArePlaces, changed, changed_at}
use Rattle.ssi_names.proofs.Distinct.{other_way}

-- ---- an item that is changed

-- a place past the end has no item
changed_past : {Row : Type 0} (change : Row → Row) (i : ℕ) (rows : List Row) → length rows ≤ i → changed change i rows ≡ rows
changed_past change i [] past = refl
changed_past change zero (x ∷ rows) past = absurd (omega (arith, past))
changed_past change (suc i) (x ∷ rows) past = ap (λ others. x ∷ others) (changed_past change i rows (omega (arith, past)))

changed_if : {Row : Type 0} (change : Row → Row) (i : ℕ) (rows : List Row) (there : Bool) → nat_lt i (length rows) ≡ there → changed_at change (cond there (Some i) None) rows ≡ changed change i rows
changed_if change i rows true e = refl
changed_if change i rows false e = sym (changed_past change i rows (grind (arith, nat_tests)))

-- what is written at a place is made of the item there
pub written : {Row : Type 0} (change : Row → Row) (i : ℕ) (rows : List Row) (was now : Row) → i < length rows → was ≡ get_or rows i was → now ≡ change was → slice_set rows i now ≡ changed change i rows
written change i [] was now within is made = absurd (omega (arith, within))
written change zero (x ∷ rows) was now within is made = ap (λ y. y ∷ rows) (made ∙ ap change is)
written change (suc i) (x ∷ rows) was now within is made = ap (λ others. x ∷ others) (written change i rows was now (omega (arith, within)) is made)

-- ---- one entry more

-- a row by the entries that are told of; an entry changes the row of its name alone
module _ {E X Row : Type 0} (key : E → List ℕ) (name_of : X → List ℕ) (row : List X → E → Row) (change : X → Row → Row)
    (other : (x : X) (xs : List X) (e : E) → bytes_eq (key e) (name_of x) ≡ false → row (x ∷ xs) e ≡ row xs e)
    (own : (x : X) (xs : List X) (e : E) → bytes_eq (key e) (name_of x) ≡ true → row (x ∷ xs) e ≡ change x (row xs e)) where
  -- rows of other names stay
  others_stay : (x : X) (xs : List X) (es : List E) → AllByRecursion (λ k. bytes_eq (name_of x) k ≡ false) (map key es) → map (row xs) es ≡ map (row (x ∷ xs)) es
  others_stay x xs [] differ = refl
  others_stay x xs (e ∷ es) differ = ap (λ y. y ∷ map (row xs) es) (sym (other x xs e (other_way (name_of x) (key e) differ.0))) ∙ ap (λ ys. row (x ∷ xs) e ∷ ys) (others_stay x xs es differ.1)

  told_by : (x : X) (xs : List X) (e : E) (es : List E) (here : Bool) → bytes_eq (name_of x) (key e) ≡ here → AllByRecursion (λ k. bytes_eq (key e) k ≡ false) (map key es)
      → changed (change x) (position_or_len (bytes_eq (name_of x)) (map key es)) (map (row xs) es) ≡ map (row (x ∷ xs)) es
      → changed (change x) (cond (not here) (1 + position_or_len (bytes_eq (name_of x)) (map key es)) 0) (row xs e ∷ map (row xs) es) ≡ row (x ∷ xs) e ∷ map (row (x ∷ xs)) es
  told_by x xs e es true is differ rest =
      let same : key e ≡ name_of x = sym ((bytes_eq-Decides (name_of x) (key e)).0 is) in
      ap (λ y. y ∷ map (row xs) es) (sym (own x xs e ((bytes_eq-Decides (key e) (name_of x)).1 same)))
      ∙ ap (λ ys. row (x ∷ xs) e ∷ ys) (others_stay x xs es (subst (λ k. AllByRecursion (λ y. bytes_eq k y ≡ false) (map key es)) same differ))
  told_by x xs e es false is differ rest =
      let place = position_or_len (bytes_eq (name_of x)) (map key es) in
      let next : 1 + place ≡ suc place = omega arith in
      ap (λ i. changed (change x) i (row xs e ∷ map (row xs) es)) next
      ∙ ap (λ y. y ∷ changed (change x) place (map (row xs) es)) (sym (other x xs e (other_way (name_of x) (key e) is))) ∙ ap (λ ys. row (x ∷ xs) e ∷ ys) rest

  told : (x : X) (xs : List X) (es : List E) → IsDistinct bytes_eq (map key es)
      → changed (change x) (position_or_len (bytes_eq (name_of x)) (map key es)) (map (row xs) es) ≡ map (row (x ∷ xs)) es
  unfolding IsDistinct
  told x xs [] differ = refl
  told x xs (e ∷ es) differ = told_by x xs e es (bytes_eq (name_of x) (key e)) refl differ.0 (told x xs es differ.1)

  -- the last entry that isn't told yet is told, by a table of the places
  pub one_told : (entries : List E) (xs : List X) (n : ℕ) (x : X) (table : List (List ℕ)) (now after : List Row) → ArePlaces table (map key entries) → n < length xs → x ≡ get_or xs n x
      → now ≡ map (row (drop (n + 1) xs)) entries → after ≡ changed_at (change x) (position (bytes_eq (name_of x)) table) now → after ≡ map (row (drop n xs)) entries
  one_told entries xs n x table now after places within is so_far made =
      let keys = map key entries in
      let rows = map (row (drop (n + 1) xs)) entries in
      let place = position_or_len (bytes_eq (name_of x)) keys in
      let long : length keys ≡ length rows = length-map entries key ∙ sym (length-map entries (row (drop (n + 1) xs))) in
      made ∙ ap (λ t. changed_at (change x) (position (bytes_eq (name_of x)) t) now) places.same ∙ ap (changed_at (change x) (position (bytes_eq (name_of x)) keys)) so_far
      ∙ ap (λ m. changed_at (change x) (cond (nat_lt place m) (Some place) None) rows) long
      ∙ changed_if (change x) place rows (nat_lt place (length rows)) refl ∙ told x (drop (n + 1) xs) entries places.differ
      ∙ ap (λ others. map (row others) entries) (sym (drop_more xs n x within ∙ ap (λ y. y ∷ drop (n + 1) xs) (sym is)))

-- ---- the last part that is left

-- the last of the parts is made of its entry, and those before it of theirs
pub record IsLast {X Y : Type 0} (f : X → Y) (xs : List X) (x : X) (parts rest : List Y) (y : Y) : Type 0 where
  pub long : length parts ≡ length rest + 1
  pub within : length rest < length xs
  pub left : rest ≡ map f (take (length rest) xs)
  pub made : y ≡ f x

pub last_part : {X Y : Type 0} (f : X → Y) (xs : List X) (x : X) (parts rest : List Y) (y : Y) → parts ≡ rest ++ y ∷ [] → length parts ≤ length xs → parts ≡ map f (take (length parts) xs)
    → x ≡ get_or xs (length rest) x → IsLast f xs x parts rest y
last_part f xs x parts rest y split few made is =
    let more : length parts ≡ length rest + 1 = ap length split ∙ length-append rest (y ∷ []) in
    let inside : length rest < length xs = omega (arith, more, few) in
    let all : rest ++ y ∷ [] ≡ map f (take (length rest) xs) ++ f (get_or xs (length rest) x) ∷ [] =
    sym split ∙ made ∙ ap (λ n. map f (take n xs)) more ∙ map_more f xs (length rest) x inside
    in
    let both = same_from_push rest (map f (take (length rest) xs)) y (f (get_or xs (length rest) x)) all in
    record { long = more; within = inside; left = both.0; made = both.1 ∙ ap f (sym is) }
