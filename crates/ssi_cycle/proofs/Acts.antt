-- What holds of every body's steps: each begins where the one before it ended, and its command makes it.
use Rattle.std.proofs.Common.{◌≡◌, ℕ, ◌+◌, Bool, true, false, List, [], ◌∷◌, ◌++◌, map, Some, None, refl, sym, subst}
use Rattle.std.specs.Prelude.{⊤, if◌then◌else◌}
use Rattle.std.specs.List.{AllByRecursion}
use Rattle.ssi_identities.specs.declared.fact.Counts.{Counts}
use Rattle.ssi_identities.specs.declared.rule.BodyItem.{BodyItem}
use Rattle.ssi_identities.specs.declared.rule.Body.{Body}
use Rattle.ssi_identities.specs.DataSets.{Plan}
use Rattle.ssi_identities.specs.States.{IsStateOf, State}
use Rattle.ssi_identities.specs.Steps.{Step, Act, Valuation, act_of, act_of_item, after_steps, choice_act, guards_of, in_turn, no_act, obey, one_then, steps_of}
use Rattle.ssi_identities.proofs.Acts.{act_of_body, act_of_do, act_of_if}
use Rattle.ssi_identities.proofs.Bodies.{body_induction}
use Rattle.ssi_identities.proofs.States.{keeps_obeyed}

-- each step begins in the state that the one before it has left, and leaves what its command makes of it
abbrev pub AreLinked : State → List Step → Type 0
AreLinked state [] = ⊤
AreLinked state (step ∷ steps) = (step.before ≡ state) × (step.after ≡ obey step.command step.before) × AreLinked step.after steps

linked_more : (state : State) (steps more : List Step) → AreLinked state steps → AreLinked (after_steps state steps) more → AreLinked state (steps ++ more)
linked_more state [] more one next = next
linked_more state (step ∷ steps) more one next = (one.0, one.1, linked_more step.after steps more one.2 next)

-- an act makes linked steps
record IsSteady (act : Act) : Type 0 where
  linked : (first : ℕ) (state : State) → AreLinked state (act.steps first state)

steady_then : (act next : Act) → IsSteady act → IsSteady next → IsSteady (one_then act next)
steady_then act next one next_one = record {
  linked = λ first state.
      let mid = after_steps state (act.steps first state) in
      linked_more state (act.steps first state) (next.steps (first + act.commands) mid) (one.linked first state) (next_one.linked (first + act.commands) mid);
}

linked_branch : (value : Bool) (act next : Act) → IsSteady act → IsSteady next → (first : ℕ) (state : State)
    → AreLinked state (if value then act.steps first state else next.steps (first + act.commands) state)
linked_branch true act next one next_one first state = one.linked first state
linked_branch false act next one next_one first state = next_one.linked (first + act.commands) state

steady_choice : (guard : State → Bool) (act next : Act) → IsSteady act → IsSteady next → IsSteady (choice_act guard act next)
steady_choice guard act next one next_one = record { linked = λ first state. linked_branch (guard state) act next one next_one first state }

steady_none : IsSteady no_act
steady_none = record { linked = λ first state. tt }

steady_items : (holds : Valuation) (items : List BodyItem) → AllByRecursion (λ item. IsSteady (act_of_item holds item)) items → IsSteady (in_turn (map (act_of_item holds) items))
steady_items holds [] each = steady_none
steady_items holds (item ∷ items) each = steady_then (act_of_item holds item) (in_turn (map (act_of_item holds) items)) each.0 (steady_items holds items each.1)

steady_body : (holds : Valuation) (body : Body) → IsSteady (act_of holds body)
steady_body holds = body_induction (λ item. IsSteady (act_of_item holds item)) (λ body. IsSteady (act_of holds body))
    (λ command. subst IsSteady (sym (act_of_do holds command)) (record { linked = λ first state. (refl, refl, tt) }))
    (λ guard body one. subst IsSteady (sym (act_of_if holds guard body None)) (steady_choice (holds guard) (act_of holds body) no_act one steady_none))
    (λ guard body other one other_one. subst IsSteady (sym (act_of_if holds guard body (Some other))) (steady_choice (holds guard) (act_of holds body) (act_of holds other) one other_one))
    (λ items each. subst IsSteady (sym (act_of_body holds items)) (steady_items holds items each))

-- a body's steps are linked
pub steps_linked : (plan : Plan) (body : Body) (state : State) (report : ℕ) → AreLinked state (steps_of plan body state report)
steps_linked plan body state report = (steady_body (guards_of plan report) body).linked 0 state

-- a linked step leads from a state of a layout to one
pub step_keeps : (counts : Counts) (state : State) (step : Step) → step.before ≡ state → step.after ≡ obey step.command step.before → IsStateOf counts state → IsStateOf counts step.after
step_keeps counts state step from made of = subst (IsStateOf counts) (sym made) (keeps_obeyed counts step.command step.before (subst (IsStateOf counts) (sym from) of))
