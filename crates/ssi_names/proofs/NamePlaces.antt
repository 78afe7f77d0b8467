-- Names that differ and their places, and the kinds that first letters tell.
use Rattle.std.proofs.Common.{◌≡◌, ℕ, zero, suc, ◌+◌, ◌<◌, ◌≤◌, ◌||◌, Bool, true, false, cond, not, List, [], ◌∷◌, length, get_or, refl, ap, sym, subst, ◌∙◌, arith}
use Rattle.std.specs.Prelude.{All, ◌==◌, if◌then◌else◌}
use Rattle.std.specs.List.{AllByRecursion, IsDistinct, position_or_len}
use Rattle.std.specs.Str.{bytes_eq}
use Rattle.std.proofs.lemmas.Bool.Decides.{nat_tests}
use Rattle.std.proofs.lemmas.List.Elements.{All-head, All-tail}
use Rattle.std.proofs.lemmas.Slice.Eq.{bytes_eq-Decides}
use Rattle.ssi_identities.specs.declared.fact.Kind.TheVariants.{Points, Signal, Track}
use Rattle.ssi_identities.specs.IdentityNames.{letter_of}
use Rattle.ssi_identities.specs.Wells.{wired_kind}
use Rattle.ssi_names.specs.NameLists.{is_among}
use Rattle.ssi_names.proofs.Distinct.{differ_by, other_way, place_tells}

-- ---- names and their places

equal_to_itself : (name : List ℕ) → bytes_eq name name ≡ true
equal_to_itself name = (bytes_eq-Decides name name).1 refl

item_at : {X : Type 0} (P : X → Type 0) (xs : List X) (i : ℕ) (d : X) → AllByRecursion P xs → i < length xs → P (get_or xs i d)
item_at P [] i d all within = absurd (omega (arith, within))
item_at P (x ∷ xs) zero d all within = all.0
item_at P (x ∷ xs) (suc i) d all within = item_at P xs i d all.1 (omega (arith, within))

-- names that differ have their own places
pub nth_place : (names : List (List ℕ)) (i : ℕ) → IsDistinct bytes_eq names → i < length names → position_or_len (bytes_eq (get_or names i [])) names ≡ i
unfolding IsDistinct
nth_place [] i differ within = absurd (omega (arith, within))
nth_place (n ∷ names) zero differ within = ap (λ b. cond (not b) (1 + position_or_len (bytes_eq n) names) 0) (equal_to_itself n)
nth_place (n ∷ names) (suc i) differ within =
    let x = get_or names i [] in
    let other = other_way n x (item_at (λ y. bytes_eq n y ≡ false) names i [] differ.0 (omega (arith, within))) in
    let place = position_or_len (bytes_eq x) names in
    let behind : position_or_len (bytes_eq x) (n ∷ names) ≡ 1 + place = ap (λ b. cond (not b) (1 + place) 0) other in
    let rest = nth_place names i differ.1 (omega (arith, within)) in
    omega (arith, behind, rest)

same_number : (i : ℕ) → (i == i) ≡ true
same_number i = grind (arith, nat_tests)

pub place_by : (names : List (List ℕ)) (x name : List ℕ) (i : ℕ) (same : Bool) → bytes_eq x name ≡ same → position_or_len (bytes_eq x) names ≡ i → is_among name names ≡ true
    → (position_or_len (bytes_eq name) names == i) ≡ same
place_by names x name i true is place there =
    ap (λ y. position_or_len (bytes_eq y) names == i) (sym ((bytes_eq-Decides x name).0 is)) ∙ ap (λ n. n == i) place ∙ same_number i
place_by names x name i false is place there =
    differ_by name x (position_or_len (bytes_eq name) names) i (position_or_len (bytes_eq name) names == i) refl (other_way x name is) (λ so. place_tells names name x there (so ∙ sym place))

-- what holds of all names holds of one that is among them
among_by : (P : List ℕ → Type 0) (name n : List ℕ) (here there : Bool) → bytes_eq name n ≡ here → (here || there) ≡ true → P n → (there ≡ true → P name) → P name
among_by P name n true there is found one rest = subst P (sym ((bytes_eq-Decides name n).0 is)) one
among_by P name n false there is found one rest = rest found

pub among_all : (P : List ℕ → Type 0) (names : List (List ℕ)) (name : List ℕ) → All P names → is_among name names ≡ true → P name
among_all P [] name all found = absurd cc
among_all P (n ∷ names) name all found = among_by P name n (bytes_eq name n) (is_among name names) refl found (All-head P n names all) (among_all P names name (All-tail P n names all))

-- ---- letters

-- the number of the letter of the identities at a module's pins, by the number of the module's kind
abbrev letter_number : ℕ → ℕ
letter_number kind = if kind == 0 then 80 else if kind == 1 then 83 else 84

letter_by : (points signals : Bool) → letter_of (if points then Points else if signals then Signal else Track) ≡ (if points then 80 else if signals then 83 else 84) ∷ []
letter_by true signals = refl
letter_by false true = refl
letter_by false false = refl

abbrev kind_of_letter : ℕ → ℕ
kind_of_letter letter = if letter == 80 then 0 else if letter == 83 then 1 else 2

kind_back : (kind : ℕ) → kind ≤ 2 → kind_of_letter (letter_number kind) ≡ kind
kind_back zero few = refl
kind_back (suc zero) few = refl
kind_back (suc (suc zero)) few = refl
kind_back (suc (suc (suc kind))) few = absurd (omega (arith, few))

-- kinds with one letter are one
pub one_kind : (a b : ℕ) → a ≤ 2 → b ≤ 2 → letter_of (wired_kind a) ≡ letter_of (wired_kind b) → a ≡ b
one_kind a b few small e =
    let same : letter_number a ∷ [] ≡ letter_number b ∷ [] = sym (letter_by (a == 0) (a == 1)) ∙ e ∙ letter_by (b == 0) (b == 1) in
    let one : letter_number a ≡ letter_number b = cc in
    sym (kind_back a few) ∙ ap kind_of_letter one ∙ kind_back b small
