-- The pins of a module, restricted one after another.
use Rattle.std.proofs.Common.{◌≡◌, ◌≢◌, ◌==◌, Bool, true, false, ℕ, zero, suc, ◌+◌, ◌<◌, ◌≤◌, List, [], ◌∷◌, ◌++◌, length, drop, get_or, Option, Some, None, refl, ap, sym, subst, ◌∙◌, arith, inl, inr, ◌⊎◌}
use Rattle.std.specs.Prelude.{if◌then◌else◌, option_map, option_and_then, slice_get, All, IfSome}
use Rattle.std.specs.List.{flat_map}
use Rattle.std.proofs.lemmas.Bool.{cases_lt}
use Rattle.std.proofs.lemmas.List.{drop_more, drop_all, get_or_past, get_or-set_other}
use Rattle.std.proofs.lemmas.List.Elements.{All-get_or, All-head, All-tail}
use Rattle.ssi_identities.specs.declared.fact.Kind.{Kind}
use Rattle.ssi_identities.specs.DataSets.{Plan, ModulePlan, counts_of, names_in}
use Rattle.ssi_identities.specs.States.{Setting, State, after_setting, after_settings, truth_of}
use Rattle.ssi_identities.specs.Wells.{IsWellModule, wired_kind}
use Rattle.ssi_image.specs.Places.{pin_of}
use Rattle.ssi_cycle.specs.Restrictions.{pin_restriction}

-- what may stand in a list of what may be, by its place
pub where_given : {X : Type 0} (xs : List (Option X)) (i : ℕ) → option_and_then (λ x. x) (slice_get xs i) ≡ get_or xs i None
where_given [] i = refl
where_given (x ∷ xs) zero = refl
where_given (x ∷ xs) (suc i) = where_given xs i

settings_more : (settings more : List Setting) (state : State) → after_settings state (settings ++ more) ≡ after_settings (after_settings state settings) more
settings_more [] more state = refl
settings_more (setting ∷ settings) more state = settings_more settings more (after_setting state setting)

-- a fact that settings don't name keeps its value
pub others_stay : (settings : List Setting) (state : State) (fact : ℕ) → All (λ setting. fact ≢ setting.fact) settings → truth_of (after_settings state settings) fact ≡ truth_of state fact
others_stay [] state fact others = refl
others_stay (setting ∷ settings) state fact others =
    others_stay settings (after_setting state setting) fact (All-tail (λ setting. fact ≢ setting.fact) setting settings others)
    ∙ get_or-set_other state.facts setting.fact fact setting.value false (All-head (λ setting. fact ≢ setting.fact) setting settings others)

-- what the pins from one on restrict
abbrev pub restriction_from : Plan → ModulePlan → ℕ → List Setting
restriction_from plan row pin = flat_map (pin_restriction (counts_of plan) (wired_kind row.kind)) (drop pin row.pins)

restriction_more : (plan : Plan) (row : ModulePlan) (pin : ℕ) → (pin < length row.pins) ⊎ (length row.pins ≤ pin)
    → restriction_from plan row pin ≡ pin_restriction (counts_of plan) (wired_kind row.kind) (get_or row.pins pin None) ++ restriction_from plan row (pin + 1)
restriction_more plan row pin (inl within) = rw (drop_more row.pins pin None within) refl
restriction_more plan row pin (inr past) = rw (drop_all pin row.pins past, drop_all (pin + 1) row.pins (omega arith), get_or_past row.pins pin None past) refl

-- what holds of all that is given holds of one that is
there_by : (P : ℕ → Type 0) (xs : List (Option ℕ)) (i x : ℕ) → get_or xs i None ≡ Some x → All (λ x. IfSome x P) xs → P x
there_by P xs i x here all = within (cases_lt i (length xs))
  where
    within : (i < length xs) ⊎ (length xs ≤ i) → P x
    within (inl inside) = subst (λ o. IfSome o P) here (All-get_or (λ x. IfSome x P) xs i None inside all)
    within (inr past) = let none = get_or_past xs i None past in absurd cc

module _ (plan : Plan) (number : ℕ) (row : ModulePlan) (there : slice_get plan.modules number ≡ Some row) where
  -- the identity at a pin, if there is one
  pin_is : (pin : ℕ) → pin_of plan number pin ≡ get_or row.pins pin None
  pin_is pin = ap (option_and_then (λ (row : ModulePlan). option_and_then (λ wired. wired) (slice_get row.pins pin))) there ∙ where_given row.pins pin

  -- one pin is restricted, and those after it are left
  pub pin_next : (pin : ℕ) (wired : Option ℕ) (old new : State) → wired ≡ pin_of plan number pin → new ≡ after_settings old (pin_restriction (counts_of plan) (wired_kind row.kind) wired)
      → after_settings old (restriction_from plan row pin) ≡ after_settings new (restriction_from plan row (pin + 1))
  pin_next pin wired old new is done =
      let this : wired ≡ get_or row.pins pin None = is ∙ pin_is pin in
      ap (after_settings old) (restriction_more plan row pin (cases_lt pin (length row.pins)) ∙ ap (λ w. pin_restriction (counts_of plan) (wired_kind row.kind) w ++ restriction_from plan row (pin + 1)) (sym this))
      ∙ settings_more (pin_restriction (counts_of plan) (wired_kind row.kind) wired) (restriction_from plan row (pin + 1)) old
      ∙ ap (λ state. after_settings state (restriction_from plan row (pin + 1))) (sym done)

  -- the identity at a pin is there
  pub wired_there : (pin identity : ℕ) → IsWellModule plan row → pin_of plan number pin ≡ Some identity → identity < length (names_in plan (wired_kind row.kind))
  wired_there pin identity well is =
      let here : get_or row.pins pin None ≡ Some identity = sym (pin_is pin) ∙ is in
      there_by (λ identity. identity < length (names_in plan (wired_kind row.kind))) row.pins pin identity here well.wired

  -- the kind of identity that the module is wired to
  pub kind_of_row : (byte : ℕ) (kind : Kind) → Some byte ≡ option_map (λ (row : ModulePlan). row.kind) (slice_get plan.modules number) → kind ≡ wired_kind byte → kind ≡ wired_kind row.kind
  kind_of_row byte kind is kind_is =
      let both : Some byte ≡ Some row.kind = is ∙ ap (option_map (λ (row : ModulePlan). row.kind)) there in
      let same : byte ≡ row.kind = cc in
      kind_is ∙ ap wired_kind same

-- a module has eight pins at most
few_pins : (two : Bool) (pins : ℕ) → pins ≡ (if two then 2 else 8) → pins ≤ 8
few_pins true pins is = omega arith
few_pins false pins is = omega arith

-- no pin is left
pub no_pin_left : (plan : Plan) (row : ModulePlan) → IsWellModule plan row → (state : State) → after_settings state (restriction_from plan row 8) ≡ state
no_pin_left plan row well state = rw (drop_all 8 row.pins (few_pins (row.kind == 0) (length row.pins) well.pins)) refl
