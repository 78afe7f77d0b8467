-- What is among the names of a set, and how sets grow.
use Rattle.std.proofs.Common.{◌≡◌, ℕ, ◌+◌, ◌<◌, length, take, get_or, ◌||◌, Bool, true, false, List, [], ◌∷◌, ◌++◌, map, refl, ap, sym, ◌∙◌}
use Rattle.std.specs.Prelude.{fold, if◌then◌else◌}
use Rattle.std.specs.Str.{bytes_eq}
use Rattle.std.proofs.lemmas.List.{map-append, take_more}
use Rattle.std.proofs.lemmas.List.Folds.{list_any-append}
use Rattle.std.proofs.lemmas.List.Sums.{fold-append}
use Rattle.std.proofs.lemmas.Slice.Eq.{bytes_eq-Decides}
use Rattle.ssi_names.specs.NameLists.{is_among, with_name, set_of}

pub or_false : (b : Bool) → (b || false) ≡ b
or_false true = refl
or_false false = refl

or_assoc : (a b c : Bool) → ((a || b) || c) ≡ (a || (b || c))
or_assoc true b c = refl
or_assoc false b c = refl

-- a test that is true where another one is adds nothing to it
absorbs : (a b : Bool) → (b ≡ true → a ≡ true) → a ≡ (a || b)
absorbs true b h = refl
absorbs false true h = h refl
absorbs false false h = refl

in_with_by : (names : List (List ℕ)) (name other : List ℕ) (there : Bool) → is_among other names ≡ there
    → is_among name (if there then names else names ++ other ∷ []) ≡ (is_among name names || bytes_eq name other)
in_with_by names name other true e =
    absorbs (is_among name names) (bytes_eq name other) (λ same. ap (λ text. is_among text names) ((bytes_eq-Decides name other).0 same) ∙ e)
in_with_by names name other false e =
    list_any-append (bytes_eq name) names (other ∷ []) ∙ ap (λ b. is_among name names || b) (or_false (bytes_eq name other))

-- what is among the names with one more
in_with : (names : List (List ℕ)) (name other : List ℕ) → is_among name (with_name names other) ≡ (is_among name names || bytes_eq name other)
in_with names name other = in_with_by names name other (is_among other names) refl

pub in_fold : (names others : List (List ℕ)) (name : List ℕ) → is_among name (fold with_name names others) ≡ (is_among name names || is_among name others)
in_fold names [] name = sym (or_false (is_among name names))
in_fold names (other ∷ others) name =
    in_fold (with_name names other) others name ∙ ap (λ b. b || is_among name others) (in_with names name other)
    ∙ or_assoc (is_among name names) (bytes_eq name other) (is_among name others)

-- a set has what the list has
pub in_set : (names : List (List ℕ)) (name : List ℕ) → is_among name (set_of names) ≡ is_among name names
in_set names name = in_fold [] names name

pub seen_more : {X : Type 0} (text_of : X → List ℕ) (xs : List X) (i : ℕ) (d : X) (new : List (List ℕ)) → i < length xs
    → new ≡ set_of (map text_of (take i xs ++ get_or xs i d ∷ [])) → new ≡ set_of (map text_of (take (i + 1) xs))
seen_more text_of xs i d new within is = is ∙ ap (λ ys. set_of (map text_of ys)) (sym (take_more xs i d within))

-- the same for an entry by its name
pub seen_entry : {X : Type 0} (text_of : X → List ℕ) (xs : List X) (i : ℕ) (x : X) (new : List (List ℕ)) → i < length xs → x ≡ get_or xs i x
    → new ≡ set_of (map text_of (take i xs ++ x ∷ [])) → new ≡ set_of (map text_of (take (i + 1) xs))
seen_entry text_of xs i x new within is so = seen_more text_of xs i x new within (so ∙ ap (λ y. set_of (map text_of (take i xs ++ y ∷ []))) is)

-- the set grows by the name of one more entry
pub names_more : {X : Type 0} (text_of : X → List ℕ) (xs : List X) (i : ℕ) (d : X) (before now new : List (List ℕ)) → i < length xs → now ≡ fold with_name before (map text_of (take i xs))
    → new ≡ with_name now (text_of (get_or xs i d)) → new ≡ fold with_name before (map text_of (take (i + 1) xs))
names_more text_of xs i d before now new within was added =
    added ∙ ap (λ names. with_name names (text_of (get_or xs i d))) was
    ∙ sym (ap (λ ys. fold with_name before (map text_of ys)) (take_more xs i d within) ∙ ap (fold with_name before) (map-append text_of (take i xs) (get_or xs i d ∷ []))
    ∙ fold-append with_name before (map text_of (take i xs)) (text_of (get_or xs i d) ∷ []))
