-- Tables of what identities are wired to, made pin by pin.
use Rattle.std.proofs.Common.{◌≡◌, ◌≢◌, ℕ, zero, suc, ◌+◌, ◌<◌, ◌≤◌, Bool, true, false, not, List, [], ◌∷◌, ◌++◌, length, map, take, Option, Some, None, refl, ap, sym, subst, ◌∙◌, arith}
use Rattle.std.specs.Prelude.{◌==◌, get_or, nat_lt, slice_get, slice_set}
use Rattle.std.proofs.lemmas.Bool.Decides.{nat_tests}
use Rattle.std.proofs.lemmas.List.{length-set}
use Rattle.std.proofs.lemmas.Option.{slice_get_within}
use Rattle.ssi_identities.specs.DataSets.{ModulePlan, Plan}
use Rattle.ssi_image.specs.Packed.{Wiring, wiring_of}
use Rattle.ssi_image.specs.Places.{IsWiredTo}
use Rattle.ssi_image.specs.Tables.{AreWires, AreWiresBefore, noted}

-- what is read where something was written
read_here : {X : Type 0} (xs : List X) (i : ℕ) (x y : X) → slice_get (slice_set xs i x) i ≡ Some y → x ≡ y
read_here [] i x y is = absurd cc
read_here (z ∷ xs) zero x y is = cc
read_here (z ∷ xs) (suc i) x y is = read_here xs i x y is

read_elsewhere : {X : Type 0} (xs : List X) (i j : ℕ) (x : X) → i ≢ j → slice_get (slice_set xs i x) j ≡ slice_get xs j
read_elsewhere [] i j x apart = refl
read_elsewhere (z ∷ xs) zero zero x apart = absurd (apart refl)
read_elsewhere (z ∷ xs) zero (suc j) x apart = refl
read_elsewhere (z ∷ xs) (suc i) zero x apart = refl
read_elsewhere (z ∷ xs) (suc i) (suc j) x apart = read_elsewhere xs i j x (λ e. apart (ap suc e))

pub noted_length : (table : List (ℕ × ℕ)) (wired : Option ℕ) (place : ℕ × ℕ) → length (noted table wired place) ≡ length table
noted_length table None place = refl
noted_length table (Some identity) place = length-set table identity place

module _ (plan : Plan) (kind number : ℕ) (row : ModulePlan) (found : slice_get plan.modules number ≡ Some row) where
  -- the pin of this module is wired to no other identity
  only_this : (pin identity other : ℕ) → slice_get row.pins pin ≡ Some (Some identity) → (place : ℕ × ℕ) → place.0 ≡ number → place.1 ≡ pin → IsWiredTo plan kind other place.0 place.1 → identity ≡ other
  only_this pin identity other here place n p at =
      let rows : Some row ≡ Some at.row = sym found ∙ ap (slice_get plan.modules) (sym n) ∙ at.row_is in
      let same : row ≡ at.row = cc in
      let pins : Some (Some identity) ≡ Some (Some other) = sym here ∙ ap (λ (r : ModulePlan). slice_get r.pins pin) same ∙ ap (slice_get at.row.pins) (sym p) ∙ at.pin_is in
      cc

  no_wire : (pin other : ℕ) → slice_get row.pins pin ≡ Some None → (place : ℕ × ℕ) → place.0 ≡ number → place.1 ≡ pin → IsWiredTo plan kind other place.0 place.1 → ⊥
  no_wire pin other here place n p at =
      let rows : Some row ≡ Some at.row = sym found ∙ ap (slice_get plan.modules) (sym n) ∙ at.row_is in
      let same : row ≡ at.row = cc in
      let pins : Some None ≡ Some (Some other) = sym here ∙ ap (λ (r : ModulePlan). slice_get r.pins pin) same ∙ ap (slice_get at.row.pins) (sym p) ∙ at.pin_is in
      absurd cc

-- of a number below the next one: it is below, or it is the one
below_or_at : {X : Type 0} (n m : ℕ) → n < m + 1 → (n < m → X) → (n ≡ m → X) → X
below_or_at {X} n m within below at = by_test (nat_lt n m) refl
  where
    by_test : (b : Bool) → nat_lt n m ≡ b → X
    by_test true e = below (grind (arith, nat_tests))
    by_test false e = at (grind (arith, nat_tests))

module _ (plan : Plan) (kind number : ℕ) (row : ModulePlan) (found : slice_get plan.modules number ≡ Some row) where
  -- nothing is wired to an empty pin
  empty_pin : (pin : ℕ) (table : List (ℕ × ℕ)) → slice_get row.pins pin ≡ Some None → AreWiresBefore plan kind number pin table → AreWiresBefore plan kind number (pin + 1) table
  empty_pin pin table none before = record {
    earlier = before.earlier;
    here = λ other place wire read at n p.
        below_or_at place.1 pin p (λ less. before.here other place wire read at n less) (λ same. absurd (no_wire plan kind number row found pin other none place n same at));
  }

  -- an identity that is wired to a pin has this one from here on, the others what they had
  wired_pin : (pin identity : ℕ) (table : List (ℕ × ℕ)) → row.kind ≡ kind → slice_get row.pins pin ≡ Some (Some identity) → AreWiresBefore plan kind number pin table
      → AreWiresBefore plan kind number (pin + 1) (slice_set table identity (number, pin))
  wired_pin pin identity table own some before = record {
    earlier = λ other place wire read at n. by_case other place wire read at (λ apart same. before.earlier other place wire same at n) (identity == other) refl;
    here = λ other place wire read at n p. by_case other place wire read at
        (λ apart same. below_or_at place.1 pin p (λ less. before.here other place wire same at n less) (λ is. absurd (apart (only_this plan kind number row found pin identity other some place n is at))))
        (identity == other) refl;
  }
    where
      by_case : (other : ℕ) (place wire : ℕ × ℕ) → slice_get (slice_set table identity (number, pin)) other ≡ Some wire → IsWiredTo plan kind other place.0 place.1
          → (identity ≢ other → slice_get table other ≡ Some wire → IsWiredTo plan kind other wire.0 wire.1) → (b : Bool) → (identity == other) ≡ b → IsWiredTo plan kind other wire.0 wire.1
      by_case other place wire read at elsewhere true e =
          let same : identity ≡ other = grind (arith, nat_tests) in
          let here : (number, pin) ≡ wire = read_here table identity (number, pin) wire (ap (slice_get (slice_set table identity (number, pin))) same ∙ read) in
          let this : IsWiredTo plan kind other number pin = record { row = row; row_is = found; kind_is = own; pin_is = some ∙ ap (λ i. Some (Some i)) same } in
          subst (λ (w : ℕ × ℕ). IsWiredTo plan kind other w.0 w.1) here this
      by_case other place wire read at elsewhere false e =
          let apart : identity ≢ other = (λ s. grind (arith, nat_tests)) in
          elsewhere apart (sym (read_elsewhere table identity other (number, pin) apart) ∙ read)

  -- one pin on
  pub next_pin : (pin : ℕ) (wired : Option ℕ) (table after : List (ℕ × ℕ)) → row.kind ≡ kind → slice_get row.pins pin ≡ Some wired → after ≡ noted table wired (number, pin)
      → AreWiresBefore plan kind number pin table → AreWiresBefore plan kind number (pin + 1) after
  next_pin pin None table after own is set before = subst (AreWiresBefore plan kind number (pin + 1)) (sym set) (empty_pin pin table is before)
  next_pin pin (Some identity) table after own is set before = subst (AreWiresBefore plan kind number (pin + 1)) (sym set) (wired_pin pin identity table own is before)

  -- past its last pin the module is done
  pub module_done : (pin : ℕ) (table : List (ℕ × ℕ)) → length row.pins ≤ pin → AreWiresBefore plan kind number pin table → AreWiresBefore plan kind (number + 1) 0 table
  module_done pin table long before = record {
    earlier = λ other place wire read at n. below_or_at place.0 number n (λ less. before.earlier other place wire read at less) (λ same. before.here other place wire read at same (within place at same));
    here = λ other place wire read at n p. absurd (omega arith);
  }
    where
      within : {other : ℕ} (place : ℕ × ℕ) → IsWiredTo plan kind other place.0 place.1 → place.0 ≡ number → place.1 < pin
      within {other} place at same =
          let rows : Some row ≡ Some at.row = sym found ∙ ap (slice_get plan.modules) (sym same) ∙ at.row_is in
          let one : row ≡ at.row = cc in
          let few = slice_get_within at.row.pins place.1 (Some other) at.pin_is in
          omega (arith, long, few, ap (λ (r : ModulePlan). length r.pins) one)

  -- a module of another kind wires nothing of this kind
  pub other_kind : (table : List (ℕ × ℕ)) → row.kind ≢ kind → AreWiresBefore plan kind number 0 table → AreWiresBefore plan kind (number + 1) 0 table
  other_kind table apart before = record {
    earlier = λ other place wire read at n. below_or_at place.0 number n (λ less. before.earlier other place wire read at less) (λ same. absurd (apart (kinds place at same)));
    here = λ other place wire read at n p. absurd (omega arith);
  }
    where
      kinds : {other : ℕ} (place : ℕ × ℕ) → IsWiredTo plan kind other place.0 place.1 → place.0 ≡ number → row.kind ≡ kind
      kinds place at same =
          let rows : Some row ≡ Some at.row = sym found ∙ ap (slice_get plan.modules) (sym same) ∙ at.row_is in
          let one : row ≡ at.row = cc in
          ap (λ (r : ModulePlan). r.kind) one ∙ at.kind_is

-- once all modules are done, the table is whole
pub wires_whole : (plan : Plan) (kind number : ℕ) (table : List (ℕ × ℕ)) → length plan.modules ≤ number → AreWiresBefore plan kind number 0 table → AreWires plan kind table
wires_whole plan kind number table long before identity place wire read at =
    before.earlier identity place wire read at (omega (arith, long, slice_get_within plan.modules place.0 at.row at.row_is))

pub read_at : {X : Type 0} (xs : List X) (i : ℕ) (x : X) → i < length xs → x ≡ get_or xs i x → slice_get xs i ≡ Some x
read_at [] i x within is = absurd (omega arith)
read_at (y ∷ xs) zero x within is = ap Some (sym is)
read_at (y ∷ xs) (suc i) x within is = read_at xs i x (omega arith) is

-- the module of a row
pub row_of : (rows : List ModulePlan) (n : ℕ) (wiring : Wiring) → slice_get (map wiring_of rows) n ≡ Some wiring → (row : ModulePlan) × (slice_get rows n ≡ Some row) × (wiring_of row ≡ wiring)
row_of [] n wiring is = absurd cc
row_of (row ∷ rows) zero wiring is = (row, refl, cc)
row_of (row ∷ rows) (suc n) wiring is = row_of rows n wiring is
