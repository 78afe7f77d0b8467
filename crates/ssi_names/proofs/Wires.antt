-- Pins that are wired one after another.
use Rattle.std.proofs.Common.{◌≡◌, ℕ, ◌+◌, ◌<◌, ◌≤◌, Bool, true, false, List, [], ◌∷◌, length, take, get_or, min, Option, Some, None, refl, ap, sym, ◌∙◌, arith, replicate}
use Rattle.std.specs.Prelude.{fold, nat_lt, slice_set}
use Rattle.std.specs.List.{position_or_len}
use Rattle.std.specs.Str.{bytes_eq}
use Rattle.std.proofs.lemmas.Bool.Decides.{nat_tests}
use Rattle.std.proofs.lemmas.Grind.{common_steps}
use Rattle.std.proofs.lemmas.List.{take_more, set_past, length-set}
use Rattle.std.proofs.lemmas.List.Sums.{fold-append}
use Rattle.ssi_terms.specs.declared.tree.Spot.{Spot}
use Rattle.ssi_names.specs.ModuleRows.{with_pin}
use Rattle.ssi_names.specs.Texts.{characters, number}

set_min_by : {X : Type 0} (xs : List X) (n : ℕ) (x : X) (small : Bool) → nat_lt n 255 ≡ small → length xs ≤ 255 → slice_set xs (min n 255) x ≡ slice_set xs n x
set_min_by xs n x true e few = let is : min n 255 ≡ n = grind (arith, nat_tests) in ap (λ i. slice_set xs i x) is
set_min_by xs n x false e few =
    let far : 255 ≤ n = grind (arith, nat_tests) in
    set_past xs (min n 255) x (omega arith) ∙ sym (set_past xs n x (omega arith))

-- a place past 255 and one past the end are alike
pub set_min : {X : Type 0} (xs : List X) (n : ℕ) (x : X) → length xs ≤ 255 → slice_set xs (min n 255) x ≡ slice_set xs n x
set_min xs n x few = set_min_by xs n x (nat_lt n 255) refl few

-- items that are put at places one after another, each as an entry tells
abbrev pub put_by : {X V : Type 0} → (X → ℕ) → (X → V) → List (Option V) → X → List (Option V)
put_by number_of value_of items x = slice_set items (number_of x) (Some (value_of x))

-- putting keeps the count
pub puts_keep : {X V : Type 0} (number_of : X → ℕ) (value_of : X → V) (items : List (Option V)) (xs : List X) → length (fold (put_by number_of value_of) items xs) ≡ length items
puts_keep number_of value_of items [] = refl
puts_keep number_of value_of items (x ∷ xs) =
    puts_keep number_of value_of (put_by number_of value_of items x) xs ∙ length-set items (number_of x) (Some (value_of x))

-- one more entry's item is put
pub put_next : {X V : Type 0} (number_of : X → ℕ) (value_of : X → V) (start : List (Option V)) (xs : List X) (i : ℕ) (d : X) (now after : List (Option V)) (n : ℕ) (v : V) → i < length xs → length start ≤ 255
    → now ≡ fold (put_by number_of value_of) start (take i xs) → n ≡ min (number_of (get_or xs i d)) 255 → v ≡ value_of (get_or xs i d) → after ≡ slice_set now n (Some v)
    → after ≡ fold (put_by number_of value_of) start (take (i + 1) xs)
put_next number_of value_of start xs i d now after n v within few so_far at value is =
    let x = get_or xs i d in
    let long : length now ≤ 255 = let kept = ap length so_far ∙ puts_keep number_of value_of start (take i xs) in omega arith in
    is ∙ ap (λ m. slice_set now m (Some v)) at ∙ set_min now (number_of x) (Some v) long ∙ ap (λ w. slice_set now (number_of x) (Some w)) value
    ∙ ap (λ items. put_by number_of value_of items x) so_far
    ∙ sym (ap (fold (put_by number_of value_of) start) (take_more xs i d within) ∙ fold-append (put_by number_of value_of) start (take i xs) (x ∷ []))

-- the same for an entry by its name
pub put_entry : {X V : Type 0} (number_of : X → ℕ) (value_of : X → V) (start : List (Option V)) (xs : List X) (i : ℕ) (x : X) (now after : List (Option V)) (n : ℕ) (v : V) → i < length xs → length start ≤ 255
    → x ≡ get_or xs i x → now ≡ fold (put_by number_of value_of) start (take i xs) → n ≡ min (number_of x) 255 → v ≡ value_of x → after ≡ slice_set now n (Some v)
    → after ≡ fold (put_by number_of value_of) start (take (i + 1) xs)
put_entry number_of value_of start xs i x now after n v within few same so_far at value is =
    put_next number_of value_of start xs i x now after n v within few so_far (at ∙ ap (λ y. min (number_of y) 255) same) (value ∙ ap value_of same) is

-- wiring keeps the count of pins
pub wires_keep : (text : List ℕ) (names : List (List ℕ)) (pins : List (Option ℕ)) (entries : List (Spot × Spot)) → length (fold (with_pin text names) pins entries) ≡ length pins
wires_keep text names pins entries = puts_keep (λ pin. number text pin.1) (λ pin. position_or_len (bytes_eq (characters text pin.0)) names) pins entries

-- one more pin is wired
pub wire_next : (text : List ℕ) (names : List (List ℕ)) (count : ℕ) (entries : List (Spot × Spot)) (i : ℕ) (d : Spot × Spot) (now after : List (Option ℕ)) (n v : ℕ) → i < length entries → count ≤ 8
    → now ≡ fold (with_pin text names) (replicate count None) (take i entries) → n ≡ min (number text (get_or entries i d).1) 255 → v ≡ position_or_len (bytes_eq (characters text (get_or entries i d).0)) names
    → after ≡ slice_set now n (Some v) → after ≡ fold (with_pin text names) (replicate count None) (take (i + 1) entries)
wire_next text names count entries i d now after n v within few =
    put_next (λ pin. number text pin.1) (λ pin. position_or_len (bytes_eq (characters text pin.0)) names) (replicate count None) entries i d now after n v within
    (grind (arith, common_steps))
