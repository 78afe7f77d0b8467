-- Tables of modules, made module by module.
use Rattle.std.proofs.Common.{◌≡◌, ◌≢◌, ℕ, ◌+◌, ◌<◌, ◌≤◌, Bool, true, false, not, List, [], ◌∷◌, ◌++◌, length, map, take, Option, Some, None, refl, ap, sym, ◌∙◌, arith, cond}
use Rattle.std.specs.Prelude.{◌==◌, get_or, slice_set, position, unwrap_or}
use Rattle.std.proofs.lemmas.Bool.Decides.{nat_tests}
use Rattle.std.proofs.lemmas.Grind.{common_steps}
use Rattle.std.specs.List.{position_or_len}
use Rattle.std.proofs.lemmas.List.{take_more, length-map, length-take, get_or-set_same, get_or-set_other}
use Rattle.std.proofs.lemmas.List.Folds.{position_or_len_push}
use Rattle.std.proofs.lemmas.List.Sums.{prefix_len-le-length}
use Rattle.ssi_identities.specs.DataSets.{ModulePlan, Plan}
use Rattle.ssi_image.specs.Packed.{Wiring, wiring_of}
use Rattle.ssi_image.specs.Tables.{ArePlaces}

-- the first of a list with one more that passes: the first of the list, or else the one more
hit : {X : Type 0} (p : X → Bool) (xs : List X) (x : X) → p x ≡ true → position p (xs ++ x ∷ []) ≡ Some (unwrap_or (position p xs) (length xs))
hit p xs x h =
    let more = position_or_len_push p xs x in
    let few = prefix_len-le-length (λ y. not (p y)) xs in
    grind (arith, common_steps)

miss : {X : Type 0} (p : X → Bool) (xs : List X) (x : X) → p x ≡ false → position p (xs ++ x ∷ []) ≡ position p xs
miss p xs x h =
    let more = position_or_len_push p xs x in
    let few = prefix_len-le-length (λ y. not (p y)) xs in
    grind (arith, common_steps)

abbrev at : ℕ → Wiring → Bool
at address row = row.address == address

-- by the address, the number of the first of these modules that has it
abbrev pub PlacesAmong : List Wiring → List (Option ℕ) → Type 0
PlacesAmong modules table = (address : ℕ) → address < 64 → get_or table address None ≡ position (at address) modules

abbrev has : ℕ → ModulePlan → Bool
has address row = row.address == address

first_same : (address : ℕ) (rows : List ModulePlan) → position_or_len (at address) (map wiring_of rows) ≡ position_or_len (has address) rows
first_same address [] = refl
first_same address (row ∷ rows) = ap (λ n. cond (not (row.address == address)) (1 + n) 0) (first_same address rows)

place_same : (address : ℕ) (rows : List ModulePlan) → position (at address) (map wiring_of rows) ≡ position (has address) rows
place_same address rows = rw (first_same address rows, length-map rows wiring_of) refl

-- so of the modules of a data set
pub places_of : (plan : Plan) (modules front : List Wiring) (table : List (Option ℕ)) → modules ≡ map wiring_of plan.modules → front ≡ modules → PlacesAmong front table → ArePlaces plan table
places_of plan modules front table are whole among address few = among address few ∙ ap (position (at address)) (whole ∙ are) ∙ place_same address plan.modules

-- one module on, each address has the first module so far that has it
pub places_more : (rows : List Wiring) (i : ℕ) (row : Wiring) (table after : List (Option ℕ)) → i < length rows → row ≡ get_or rows i row → length table ≡ 64 → row.address < 64
    → after ≡ slice_set table row.address (Some (unwrap_or (get_or table row.address None) i)) → PlacesAmong (take i rows) table → PlacesAmong (take (i + 1) rows) after
places_more rows i row table after within is long small set so_far address few = by_case (row.address == address) refl
  where
    front : take (i + 1) rows ≡ take i rows ++ row ∷ []
    front = take_more rows i row within ∙ ap (λ r. take i rows ++ r ∷ []) (sym is)

    by_case : (b : Bool) → (row.address == address) ≡ b → get_or after address None ≡ position (at address) (take (i + 1) rows)
    by_case true e =
        let same : address ≡ row.address = grind (arith, nat_tests) in
        let count : length (take i rows) ≡ i = omega (arith, length-take i rows) in
        ap (λ t. get_or t address None) set ∙ ap (λ a. get_or (slice_set table row.address (Some (unwrap_or (get_or table row.address None) i))) a None) same
        ∙ get_or-set_same table row.address (Some (unwrap_or (get_or table row.address None) i)) None (omega arith)
        ∙ ap (λ a. Some (unwrap_or (get_or table a None) i)) (sym same) ∙ ap (λ (o : Option ℕ). Some (unwrap_or o i)) (so_far address few)
        ∙ ap (λ n. Some (unwrap_or (position (at address) (take i rows)) n)) (sym count) ∙ sym (hit (at address) (take i rows) row e) ∙ ap (position (at address)) (sym front)
    by_case false e =
        let apart : address ≢ row.address = (λ s. grind (arith, nat_tests)) in
        ap (λ t. get_or t address None) set ∙ get_or-set_other table row.address address _ None apart ∙ so_far address few ∙ sym (miss (at address) (take i rows) row e) ∙ ap (position (at address)) (sym front)
