-- What an identity is wired to in a well layout is the first wire among its modules.
use Rattle.std.proofs.Common.{◌≡◌, ℕ, zero, suc, ◌+◌, ◌<◌, ◌≤◌, Bool, true, false, cond, List, [], ◌∷◌, ◌++◌, length, Option, Some, None, Ok, option_map, refl, ap, sym, ◌∙◌, arith}
use Rattle.std.specs.Prelude.{◌==◌, nat_lt, if◌then◌else◌, position, slice_get}
use Rattle.std.specs.List.{count_by, flat_map, position_or_len}
use Rattle.std.proofs.lemmas.Bool.Decides.{nat_tests}
use Rattle.std.proofs.lemmas.List.Sums.{sum_by-append, sum_by-cons}
use Rattle.std.proofs.lemmas.Option.{slice_get_within}
use Rattle.ssi_lexer.specs.declared.token.Token.{Token}
use Rattle.ssi_identities.specs.declared.fact.Kind.{Kind}
use Rattle.ssi_identities.specs.declared.fact.Kind.TheVariants.{Points, Signal, Track}
use Rattle.ssi_trackside.specs.declared.events.Event.{Event}
use Rattle.ssi_identities.specs.DataSets.{ModulePlan, Plan, names_in}
use Rattle.ssi_identities.specs.Wells.{IsWell, is_wired_to, pins_of_kind, wired_kind, wiring_kind}
use Rattle.ssi_image.specs.Places.{IsWiredTo}
use Rattle.ssi_script.specs.declared.step.EventWord.{EventWord}
use Rattle.ssi_script.specs.declared.step.EventWord.TheVariants as event
use Rattle.ssi_script.specs.declared.step.ScriptStep.TheVariants.{Happen}
use Rattle.ssi_script.specs.Meanings.{Wire, event_at, event_step, module_kind_of, wire_among, wire_at}

count_more : {X : Type 0} (p : X → Bool) (xs ys : List X) → count_by p (xs ++ ys) ≡ count_by p xs + count_by p ys
count_more p xs ys = sum_by-append (λ x. cond (p x) 1 0) xs ys

count_first : {X : Type 0} (p : X → Bool) (x : X) (xs : List X) → count_by p (x ∷ xs) ≡ cond (p x) 1 0 + count_by p xs
count_first p x xs = sum_by-cons (λ y. cond (p y) 1 0) x xs

-- ---- the pins of one module

module _ (identity : ℕ) where
  abbrev is_its : Option ℕ → Bool
  is_its = is_wired_to identity

  its_own : is_its (Some identity) ≡ true
  its_own = grind (arith, nat_tests)

  counted : (pins : List (Option ℕ)) (pin : ℕ) → slice_get pins pin ≡ Some (Some identity) → 1 ≤ count_by is_its pins
  counted [] pin is = absurd cc
  counted (x ∷ pins) zero is =
      let same : x ≡ Some identity = cc in
      let own : cond {A = ℕ} (is_its x) 1 0 ≡ 1 = rw (same, its_own) refl in
      omega (arith, count_first is_its x pins, own)
  counted (x ∷ pins) (suc pin) is = omega (arith, count_first is_its x pins, counted pins pin is)

  -- a pin that counts nothing isn't wired to it
  other_pin : (b : Bool) → cond {A = ℕ} b 1 0 ≡ 0 → b ≡ false
  other_pin true none = absurd (omega arith)
  other_pin false none = refl

  -- the one pin that is wired to it is the first
  first_pin : (pins : List (Option ℕ)) (pin : ℕ) → slice_get pins pin ≡ Some (Some identity) → count_by is_its pins ≤ 1 → position_or_len is_its pins ≡ pin
  first_pin [] pin is once = absurd cc
  first_pin (x ∷ pins) zero is once =
      let same : x ≡ Some identity = cc in
      rw (same, its_own) refl
  first_pin (x ∷ pins) (suc pin) is once =
      let none = other_pin (is_its x) (omega (arith, once, count_first is_its x pins, counted pins pin is)) in
      let later = first_pin pins pin is (omega (arith, once, count_first is_its x pins)) in
      rw (none, later) (omega arith)

  pin_found : (pins : List (Option ℕ)) (pin : ℕ) → slice_get pins pin ≡ Some (Some identity) → count_by is_its pins ≤ 1 → position is_its pins ≡ Some pin
  pin_found pins pin is once =
      let there : nat_lt pin (length pins) ≡ true = grind (arith, nat_tests, slice_get_within pins pin (Some identity) is) in
      rw (first_pin pins pin is once, there) refl

  none_first : (pins : List (Option ℕ)) → count_by is_its pins ≡ 0 → position_or_len is_its pins ≡ length pins
  none_first [] none = refl
  none_first (x ∷ pins) none =
      let other = other_pin (is_its x) (omega (arith, none, count_first is_its x pins)) in
      let later = none_first pins (omega (arith, none, count_first is_its x pins)) in
      rw (other, later) (omega arith)

  no_pin : (pins : List (Option ℕ)) → count_by is_its pins ≡ 0 → position is_its pins ≡ None
  no_pin pins none =
      let past : nat_lt (length pins) (length pins) ≡ false = grind (arith, nat_tests) in
      rw (none_first pins none, past) refl

  -- ---- module by module

  module _ (kind : ℕ) where
    abbrev own_pins : ModulePlan → List (Option ℕ)
    own_pins row = if row.kind == kind then row.pins else []

    abbrev wire_of : ModulePlan → ℕ → Wire
    wire_of row pin = record { address = row.address; kind = kind; pin = pin }

    is_own : (row : ModulePlan) → row.kind ≡ kind → (row.kind == kind) ≡ true
    is_own row own = grind (arith, nat_tests)

    counted_in : (rows : List ModulePlan) (number pin : ℕ) (row : ModulePlan) → slice_get rows number ≡ Some row → row.kind ≡ kind → slice_get row.pins pin ≡ Some (Some identity)
        → 1 ≤ count_by is_its (flat_map own_pins rows)
    counted_in [] number pin row there own is = absurd cc
    counted_in (r ∷ rows) zero pin row there own is =
        let same : r ≡ row = cc in
        let pins : own_pins r ≡ row.pins = rw (same, is_own row own) refl in
        omega (arith, count_more is_its (own_pins r) (flat_map own_pins rows), ap (count_by is_its) pins, counted row.pins pin is)
    counted_in (r ∷ rows) (suc number) pin row there own is = omega (arith, count_more is_its (own_pins r) (flat_map own_pins rows), counted_in rows number pin row there own is)

    no_wire_by : (row : ModulePlan) (b : Bool) → (row.kind == kind) ≡ b → count_by is_its (if b then row.pins else []) ≡ 0 → wire_at kind identity row ≡ None
    no_wire_by row true own none = rw (own, no_pin row.pins none) refl
    no_wire_by row false own none = rw own refl

    wired_first : (rows : List ModulePlan) (number pin : ℕ) (row : ModulePlan) → slice_get rows number ≡ Some row → row.kind ≡ kind → slice_get row.pins pin ≡ Some (Some identity)
        → count_by is_its (flat_map own_pins rows) ≤ 1 → wire_among rows kind identity ≡ Some (wire_of row pin)
    wired_first [] number pin row there own is once = absurd cc
    wired_first (r ∷ rows) zero pin row there own is once =
        let same : r ≡ row = cc in
        let pins : own_pins r ≡ row.pins = rw (same, is_own row own) refl in
        let few : count_by is_its row.pins ≤ 1 = omega (arith, once, count_more is_its (own_pins r) (flat_map own_pins rows), ap (count_by is_its) pins) in
        let here : wire_at kind identity r ≡ Some (wire_of row pin) = rw (same, is_own row own, pin_found row.pins pin is few) refl in
        rw here refl
    wired_first (r ∷ rows) (suc number) pin row there own is once =
        let more = count_more is_its (own_pins r) (flat_map own_pins rows) in
        let later = counted_in rows number pin row there own is in
        let none = no_wire_by r (r.kind == kind) refl (omega (arith, once, more, later)) in
        rw none (wired_first rows number pin row there own is (omega (arith, once, more)))

-- ---- in a well layout

-- modules at which events happen are of the three kinds, and a kind is that of one kind of identity
kind_known : (word : EventWord) → module_kind_of word ≤ 2
kind_known event.Occupy = omega arith
kind_known event.Clear = omega arith
kind_known event.Fail = omega arith
kind_known event.Mend = omega arith
kind_known event.Jam = omega arith
kind_known event.Unjam = omega arith

known_by : (k : ℕ) (zeroth first : Bool) → (k == 0) ≡ zeroth → (k == 1) ≡ first → k ≤ 2 → wiring_kind (if zeroth then Points else if first then Signal else Track) ≡ k
known_by k true first e f known = grind (arith, nat_tests)
known_by k false true e f known = grind (arith, nat_tests)
known_by k false false e f known = grind (arith, nat_tests)

number_known : (k : ℕ) → k ≤ 2 → wiring_kind (wired_kind k) ≡ k
number_known k known = known_by k (k == 0) (k == 1) refl refl known

-- an identity is wired to what the first wire tells
pub wire_is : (plan : Plan) (word : EventWord) (kind : Kind) (identity number pin : ℕ) → IsWell plan → identity < length (names_in plan (wired_kind (module_kind_of word))) → kind ≡ wired_kind (module_kind_of word)
    → (at : IsWiredTo plan (wiring_kind kind) identity number pin) → wire_among plan.modules (module_kind_of word) identity ≡ Some (record { address = at.row.address; kind = module_kind_of word; pin = pin })
wire_is plan word kind identity number pin well within same at =
    let own : at.row.kind ≡ module_kind_of word = at.kind_is ∙ ap wiring_kind same ∙ number_known (module_kind_of word) (kind_known word) in
    let once : count_by (is_wired_to identity) (pins_of_kind plan (module_kind_of word)) ≡ 1 = well.wiring.wired (module_kind_of word) (kind_known word) identity within in
    wired_first identity (module_kind_of word) plan.modules number pin at.row at.row_is own at.pin_is (omega (arith, once))

some_address : (a : ℕ) (row : ModulePlan) (o : Option ModulePlan) → o ≡ Some row → Some a ≡ option_map (λ row. row.address) o → row.address ≡ a
some_address a row o there is = let same : Some a ≡ Some row.address = is ∙ ap (option_map (λ row. row.address)) there in cc

-- so an event happens at that pin
pub happens : (plan : Plan) (word : EventWord) (kind : Kind) (identity number pin address module_kind : ℕ) (what : Event) → IsWell plan → identity < length (names_in plan (wired_kind (module_kind_of word))) → kind ≡ wired_kind (module_kind_of word)
    → IsWiredTo plan (wiring_kind kind) identity number pin → Some address ≡ option_map (λ row. row.address) (slice_get plan.modules number) → module_kind ≡ module_kind_of word → what ≡ event_at word pin
    → (token : Token) → event_step plan word token (Ok identity) ≡ Ok (Happen address module_kind what)
happens plan word kind identity number pin address module_kind what well within same at there of_kind is token =
    let wire = wire_is plan word kind identity number pin well within same at in
    let address_is = some_address address at.row (slice_get plan.modules number) at.row_is there in
    rw (wire, address_is, of_kind, is) refl
