-- What is written to a shelf at the place of a module of the layout leaves the other members as they were.
use Rattle.std.proofs.Common.{◌≡◌, ℕ, zero, suc, ◌<◌, ◌≤◌, List, [], ◌∷◌, set, Option, Some, None, All, refl, ap, sym, subst, ◌∙◌, arith}
use Rattle.std.specs.Prelude.{option_map, option_and_then, slice_get}
use Rattle.std.proofs.lemmas.List.{get_or-set_other, length-set}
use Rattle.std.proofs.lemmas.List.Elements.{All-append, All-cons, All-head, All-nil, All-tail}
use Rattle.ssi_identities.specs.DataSets.{Plan, ModulePlan, module_with}
use Rattle.ssi_identities.specs.Wells.{IsWell, IsWellModule}
use Rattle.ssi_cycle.specs.Exchanges.{module_in}
use Rattle.ssi_cycle.proofs.Modules.{module_found}
use Rattle.ssi_trackside.specs.Kinds.{points_kind}
use Rattle.ssi_trackside.specs.Module.{ModuleState, fresh}
use Rattle.ssi_trackside.specs.Shelf.{place_of}
use Rattle.ssi_script.specs.declared.step.ScriptStep.{ScriptStep}
use Rattle.ssi_script.specs.declared.step.ScriptStep.TheVariants.{Panel, Cycle, Happen, Raw, Lose, Drop}
use Rattle.ssi_script.specs.Meanings.{IsStepOf}
use Rattle.ssi_script.specs.OthersStay.{HasModule, OthersStay}
use Rattle.ssi_script.specs.Sessions.{Session, session_of, exchange_with, after_cycle, after_cycles, after_step, after_steps}
use Rattle.ssi_script.specs.Traces.{ShelfPiece, cycle_pieces, one_piece, step_pieces, steps_pieces}

module _ (plan : Plan) (well : IsWell plan) where
  -- ---- places

  -- the layout has a module with this address and kind, which has a place of its own
  record IsPlace (address kind : ℕ) : Type 0 where
    pub has : HasModule plan address kind
    pub some : 0 < address
    pub three : kind ≤ 2

  place_found : (slot : ℕ) (row : ModulePlan) (number : Option ℕ) → module_with plan slot ≡ number → option_and_then (slice_get plan.modules) number ≡ Some row
      → IsPlace slot row.kind
  place_found slot row None e there = absurd (cc)
  place_found slot row (Some number) e there =
      let found = module_found plan slot number well e in
      let same : found.row ≡ row = cc in
      let is_well = subst (IsWellModule plan) same found.well in
      let address = ap (λ (m : ModulePlan). m.address) (sym same) ∙ found.address_is in
      record {
        has = ap (option_map (λ (m : ModulePlan). m.kind)) (found.in_slot ∙ ap Some same);
        some = omega (arith, address, is_well.some);
        three = is_well.kind;
      }

  row_place : (slot : ℕ) (row : ModulePlan) → module_in plan slot ≡ Some row → IsPlace slot row.kind
  row_place slot row there = place_found slot row (module_with plan slot) refl there

  step_place : (address kind : ℕ) (module_there : Option ModulePlan) → module_in plan address ≡ module_there → option_map (λ row. row.kind) module_there ≡ Some kind
      → IsPlace address kind
  step_place address kind None e has = absurd (cc)
  step_place address kind (Some row) e has =
      let same : row.kind ≡ kind = cc in
      subst (IsPlace address) same (row_place address row e)

  -- ---- the shelf

  module _ (before : List ModuleState) where
    written : (shelf : List ModuleState) (address kind : ℕ) (m : ModuleState) → IsPlace address kind → OthersStay plan before shelf
        → OthersStay plan before (set shelf (place_of address kind) m)
    written shelf address kind m place stay = record {
      as_many = length-set shelf (place_of address kind) m ∙ stay.as_many;
      others = λ a k some few three none.
          let apart : ¬ (place_of a k ≡ place_of address kind) = λ e.
          let same_address : address ≡ a = omega (arith, e, place.some, place.three, some, three) in
          let same_kind : kind ≡ k = omega (arith, e, place.some, place.three, some, three) in
          none (subst (λ x. HasModule plan x k) same_address (place.has ∙ ap Some same_kind)) in
          get_or-set_other shelf (place_of address kind) (place_of a k) m (fresh points_kind) apart ∙ stay.others a k some few three none;
    }

    -- ---- sessions

    record IsKept (session : Session) : Type 0 where
      pub plan_is : session.core.plan ≡ plan
      pub stay : OthersStay plan before session.shelf

    exchanged : (session : Session) (row : Option ModulePlan) → module_in plan session.core.world.slot ≡ row → OthersStay plan before session.shelf
        → OthersStay plan before (exchange_with plan session row).shelf
    exchanged session None e stay = stay
    exchanged session (Some row) e stay = written session.shelf session.core.world.slot row.kind _ (row_place session.core.world.slot row e) stay

    cycle_kept : (session : Session) → IsKept session → IsKept (after_cycle session)
    cycle_kept session kept = record {
      plan_is = kept.plan_is;
      stay = subst (λ (p : Plan). OthersStay plan before (exchange_with p session (module_in p session.core.world.slot)).shelf) (sym kept.plan_is)
          (exchanged session _ refl kept.stay);
    }

    cycles_kept : (count : ℕ) (session : Session) → IsKept session → IsKept (after_cycles count session)
    cycles_kept zero session kept = kept
    cycles_kept (suc count) session kept = cycles_kept count (after_cycle session) (cycle_kept session kept)

    step_kept : (step : ScriptStep) (session : Session) → IsStepOf plan step → IsKept session → IsKept (after_step step session)
    step_kept (Panel panel request) session can kept = record { plan_is = kept.plan_is; stay = kept.stay }
    step_kept (Cycle count) session can kept = cycles_kept count session kept
    step_kept (Happen address kind event) session can kept = record {
      plan_is = kept.plan_is;
      stay = written session.shelf address kind _ (step_place address kind _ refl can) kept.stay;
    }
    step_kept (Raw address bytes) session can kept = record { plan_is = kept.plan_is; stay = kept.stay }
    step_kept (Lose address) session can kept = record { plan_is = kept.plan_is; stay = kept.stay }
    step_kept (Drop address) session can kept = record { plan_is = kept.plan_is; stay = kept.stay }

    -- ---- pieces

    abbrev StaysIn : ShelfPiece → Type 0
    StaysIn piece = OthersStay plan before piece.standing

    in_cycles : (count : ℕ) (session : Session) → IsKept session → All StaysIn (cycle_pieces count session)
    in_cycles zero session kept = All-nil StaysIn
    in_cycles (suc count) session kept =
        let next = cycle_kept session kept in
        All-cons StaysIn _ _ next.stay (in_cycles count (after_cycle session) next)

    in_one : (text : List ℕ) (session : Session) → IsKept session → All StaysIn (one_piece text session)
    in_one text session kept = All-cons StaysIn _ [] kept.stay (All-nil StaysIn)

    in_step : (step : ScriptStep) (session : Session) → IsStepOf plan step → IsKept session → All StaysIn (step_pieces step session)
    in_step (Panel panel request) session can kept = in_one _ session kept
    in_step (Cycle count) session can kept = in_cycles count session kept
    in_step (Happen address kind event) session can kept = in_one _ (after_step (Happen address kind event) session) (step_kept (Happen address kind event) session can kept)
    in_step (Raw address bytes) session can kept = in_one _ session kept
    in_step (Lose address) session can kept = in_one _ session kept
    in_step (Drop address) session can kept = in_one _ session kept

    in_steps : (steps : List ScriptStep) (session : Session) → All (IsStepOf plan) steps → IsKept session → All StaysIn (steps_pieces steps session)
    in_steps [] session can kept = All-nil StaysIn
    in_steps (step ∷ steps) session can kept =
        let now = All-head (IsStepOf plan) step steps can in
        let next = step_kept step session now kept in
        All-append StaysIn (step_pieces step session) _ (in_step step session now kept)
        (in_steps steps (after_step step session) (All-tail (IsStepOf plan) step steps can) next)

    after_all : (steps : List ScriptStep) (session : Session) → All (IsStepOf plan) steps → IsKept session → IsKept (after_steps steps session)
    after_all [] session can kept = kept
    after_all (step ∷ steps) session can kept =
        after_all steps (after_step step session) (All-tail (IsStepOf plan) step steps can) (step_kept step session (All-head (IsStepOf plan) step steps can) kept)

    start_kept : IsKept (session_of plan before)
    start_kept = record { plan_is = refl; stay = record { as_many = refl; others = λ _ _ _ _ _ _. refl } }

    pub after_session : (steps : List ScriptStep) → All (IsStepOf plan) steps → OthersStay plan before (after_steps steps (session_of plan before)).shelf
    after_session steps can = (after_all steps (session_of plan before) can start_kept).stay

    pub in_session : (steps : List ScriptStep) → All (IsStepOf plan) steps → All StaysIn (steps_pieces steps (session_of plan before))
    in_session steps can = in_steps steps (session_of plan before) can start_kept
