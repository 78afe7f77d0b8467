-- The modules and pins that the tables of an image find.
use Rattle.std.proofs.Common.{◌≡◌, ◌≢◌, ℕ, zero, suc, ◌+◌, ◌<◌, ◌≤◌, Bool, true, false, not, List, [], ◌∷◌, ◌++◌, length, map, Option, Some, None, option_map, refl, ap, sym, subst, ◌∙◌, arith, cond}
use Rattle.std.specs.Prelude.{◌==◌, if◌then◌else◌, All, get_or, position, slice_get}
use Rattle.std.specs.List.{count_by, flat_map, position_or_len}
use Rattle.std.proofs.lemmas.Bool.Decides.{nat_tests}
use Rattle.std.proofs.lemmas.Grind.{common_steps}
use Rattle.std.proofs.lemmas.List.{length-map}
use Rattle.std.proofs.lemmas.List.Elements.{All-head, All-tail}
use Rattle.std.proofs.lemmas.List.Sums.{sum_by-append, sum_by-cons}
use Rattle.ssi_identities.specs.declared.fact.Kind.{Kind}
use Rattle.ssi_identities.specs.declared.fact.Kind.TheVariants.{Points, Signal, Track, Route, Subroute, Flag, Request}
use Rattle.ssi_identities.specs.DataSets.{ModulePlan, Plan, PointsPlan, names_in, module_with}
use Rattle.ssi_identities.specs.Wells.{IsWell, IsWellModule, is_wired_to, wiring_kind, pins_of_kind, wired_kind}
use Rattle.ssi_image.specs.Places.{IsWiredTo, is_wired_kind}
use Rattle.ssi_image.specs.Tables.{AreWires, AreTablesOf, TablesOf, wires_of}

-- ---- addresses

abbrev has : ℕ → ModulePlan → Bool
has address row = row.address == address

-- the module that the table has at an address is the one that has it
pub place_found : (plan shown : Plan) (tables : TablesOf) (address : ℕ) (place : Option ℕ) → plan ≡ shown → AreTablesOf plan tables → address < 64
    → place ≡ get_or tables.places address None → place ≡ module_with shown address
place_found plan shown tables address place same are within here = here ∙ are.places_are address within ∙ ap (λ (p : Plan). module_with p address) same

none_at : (plan : Plan) (address : ℕ) (rows : List ModulePlan) → All (IsWellModule plan) rows → 64 ≤ address → position_or_len (has address) rows ≡ length rows
none_at plan address [] all past = refl
none_at plan address (row ∷ rows) all past =
    let few = (All-head (IsWellModule plan) row rows all).few in
    let apart : (row.address == address) ≡ false = grind (arith, nat_tests) in
    let rest = none_at plan address rows (All-tail (IsWellModule plan) row rows all) past in
    rw apart (omega arith)

-- no module has an address past the last
pub place_past : (plan shown : Plan) (address : ℕ) → IsWell plan → plan ≡ shown → 64 ≤ address → None ≡ module_with shown address
place_past plan shown address well same past =
    let none = none_at plan address plan.modules well.wiring.modules past in
    let nothing : position (has address) plan.modules ≡ None = grind (arith, nat_tests, common_steps) in
    sym nothing ∙ ap (λ (p : Plan). position (has address) p.modules) same

-- ---- wires

count_more : {X : Type 0} (p : X → Bool) (xs ys : List X) → count_by p (xs ++ ys) ≡ count_by p xs + count_by p ys
count_more p xs ys = sum_by-append (λ x. cond (p x) 1 0) xs ys

some_pin : (identity : ℕ) (pins : List (Option ℕ)) → 0 < count_by (is_wired_to identity) pins → (pin : ℕ) × (slice_get pins pin ≡ Some (Some identity))
some_pin identity [] some = absurd (omega arith)
some_pin identity (None ∷ pins) some =
    let rest = some_pin identity pins (omega (arith, sum_by-cons (λ (x : Option ℕ). cond (is_wired_to identity x) 1 0) None pins)) in
    (suc rest.0, rest.1)
some_pin identity (Some wired ∷ pins) some = by_case (some_pin identity pins) (wired == identity) refl
  where
    by_case : (0 < count_by (is_wired_to identity) pins → (pin : ℕ) × (slice_get pins pin ≡ Some (Some identity))) → (b : Bool) → (wired == identity) ≡ b → (pin : ℕ) × (slice_get (Some wired ∷ pins) pin ≡ Some (Some identity))
    by_case rest true e = let same : wired ≡ identity = grind (arith, nat_tests) in (0, ap (λ i. Some (Some i)) same)
    by_case rest false e =
        let first : cond {A = ℕ} (is_wired_to identity (Some wired)) 1 0 ≡ 0 = rw e refl in
        let found = rest (omega (arith, sum_by-cons (λ (x : Option ℕ). cond (is_wired_to identity x) 1 0) (Some wired) pins)) in
        (suc found.0, found.1)

abbrev own_pins : ℕ → ModulePlan → List (Option ℕ)
own_pins kind row = if row.kind == kind then row.pins else []

-- some pin of these modules, with its module's number
record IsSomewhere (kind identity : ℕ) (rows : List ModulePlan) : Type 0 where
  number : ℕ
  pin : ℕ
  row : ModulePlan
  row_is : slice_get rows number ≡ Some row
  kind_is : row.kind ≡ kind
  pin_is : slice_get row.pins pin ≡ Some (Some identity)

later : (kind identity : ℕ) (row : ModulePlan) (rows : List ModulePlan) → IsSomewhere kind identity rows → IsSomewhere kind identity (row ∷ rows)
later kind identity row rows found = record { number = suc found.number; pin = found.pin; row = found.row; row_is = found.row_is; kind_is = found.kind_is; pin_is = found.pin_is }

some_place : (kind identity : ℕ) (rows : List ModulePlan) → 0 < count_by (is_wired_to identity) (flat_map (own_pins kind) rows) → IsSomewhere kind identity rows
some_place kind identity [] some = absurd (omega arith)
some_place kind identity (row ∷ rows) some = by_kind (some_place kind identity rows) (row.kind == kind) refl
  where
    by_count : (0 < count_by (is_wired_to identity) (flat_map (own_pins kind) rows) → IsSomewhere kind identity rows) → (b : Bool)
        → (count_by (is_wired_to identity) row.pins == 0) ≡ b → row.kind ≡ kind → own_pins kind row ≡ row.pins → IsSomewhere kind identity (row ∷ rows)
    by_count rest true e own pins =
        let more = count_more (is_wired_to identity) (own_pins kind row) (flat_map (own_pins kind) rows) in
        let none : count_by (is_wired_to identity) row.pins ≡ 0 = grind (arith, nat_tests) in
        let same = ap (count_by (is_wired_to identity)) pins in
        later kind identity row rows (rest (omega arith))
    by_count rest false e own pins =
        let found = some_pin identity row.pins (grind (arith, nat_tests)) in
        record { number = 0; pin = found.0; row = row; row_is = refl; kind_is = own; pin_is = found.1 }

    by_kind : (0 < count_by (is_wired_to identity) (flat_map (own_pins kind) rows) → IsSomewhere kind identity rows) → (b : Bool) → (row.kind == kind) ≡ b → IsSomewhere kind identity (row ∷ rows)
    by_kind rest true e = by_count rest (count_by (is_wired_to identity) row.pins == 0) refl (grind (arith, nat_tests)) (rw e refl)
    by_kind rest false e =
        let none : own_pins kind row ≡ [] = rw e refl in
        let same = ap (λ ps. count_by (is_wired_to identity) (ps ++ flat_map (own_pins kind) rows)) none in
        later kind identity row rows (rest (omega arith))

-- what the table has of an identity is what it is wired to
wire_found : (plan : Plan) (kind identity : ℕ) (table : List (ℕ × ℕ)) (wire : ℕ × ℕ) → IsWell plan → kind ≤ 2 → identity < length (names_in plan (wired_kind kind))
    → AreWires plan kind table → slice_get table identity ≡ Some wire → IsWiredTo plan kind identity wire.0 wire.1
wire_found plan kind identity table wire well known within are read =
    let once : count_by (is_wired_to identity) (pins_of_kind plan kind) ≡ 1 = well.wiring.wired kind known identity within in
    let some = some_place kind identity plan.modules (omega arith) in
    are identity (some.number, some.pin) wire read (record { row = some.row; row_is = some.row_is; kind_is = some.kind_is; pin_is = some.pin_is })

pub wire_of_kind : (plan shown : Plan) (tables : TablesOf) (kind : Kind) (identity : ℕ) (wire : ℕ × ℕ) → IsWell plan → plan ≡ shown → AreTablesOf plan tables
    → is_wired_kind kind ≡ true → identity < length (names_in plan kind) → slice_get (wires_of tables kind) identity ≡ Some wire → IsWiredTo shown (wiring_kind kind) identity wire.0 wire.1
wire_of_kind plan shown tables kind identity wire well same are known within read =
    let found = elim kind as (λ (k : Kind). is_wired_kind k ≡ true → identity < length (names_in plan k) → slice_get (wires_of tables k) identity ≡ Some wire → IsWiredTo plan (wiring_kind k) identity wire.0 wire.1) [
      | Points ↦ (λ e w r. wire_found plan 0 identity tables.points wire well (omega arith) w are.points_are r)
      | Signal ↦ (λ e w r. wire_found plan 1 identity tables.signals wire well (omega arith) w are.signals_are r)
      | Track ↦ (λ e w r. wire_found plan 2 identity tables.tracks wire well (omega arith) w are.tracks_are r)
      | Route ↦ (λ e w r. absurd cc)
      | Subroute ↦ (λ e w r. absurd cc)
      | Flag ↦ (λ e w r. absurd cc)
      | Request ↦ (λ e w r. absurd cc)
    ]
    in
    subst (λ (p : Plan). IsWiredTo p (wiring_kind kind) identity wire.0 wire.1) same (found known within read)

-- and it is long enough
pub table_long : (plan : Plan) (tables : TablesOf) (kind : Kind) (identity : ℕ) → AreTablesOf plan tables → is_wired_kind kind ≡ true
    → identity < length (names_in plan kind) → identity < length (wires_of tables kind)
table_long plan tables kind identity are known within =
    let found = elim kind as (λ (k : Kind). is_wired_kind k ≡ true → identity < length (names_in plan k) → identity < length (wires_of tables k)) [
      | Points ↦ (λ e w. omega (arith, are.points_long, length-map plan.points (λ (row : PointsPlan). row.name)))
      | Signal ↦ (λ e w. omega (arith, are.signals_long))
      | Track ↦ (λ e w. omega (arith, are.tracks_long))
      | Route ↦ (λ e w. absurd cc)
      | Subroute ↦ (λ e w. absurd cc)
      | Flag ↦ (λ e w. absurd cc)
      | Request ↦ (λ e w. absurd cc)
    ]
    in
    found known within

there : {X : Type 0} (xs : List X) (i : ℕ) (d : X) → i < length xs → slice_get xs i ≡ Some (get_or xs i d)
there [] i d within = absurd (omega arith)
there (x ∷ xs) zero d within = refl
there (x ∷ xs) (suc i) d within = there xs i d (omega arith)

-- what is read of a table
pub wire_read : (table shown : List (ℕ × ℕ)) (i n : ℕ) → shown ≡ table → n ≡ i → i < length table → slice_get table i ≡ Some (get_or shown n (0, 0))
wire_read table shown i n same place within = there table i (0, 0) within ∙ ap (λ (t : List (ℕ × ℕ)). Some (get_or t i (0, 0))) (sym same) ∙ ap (λ (m : ℕ). Some (get_or shown m (0, 0))) (sym place)
