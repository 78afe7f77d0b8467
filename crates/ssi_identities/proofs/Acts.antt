-- What bodies do, item by item.
use Rattle.std.proofs.Common.{◌≡◌, refl, ap, sym, ◌∙◌, ℕ, ◌+◌, Bool, true, false, List, [], ◌∷◌, ◌++◌, Option, Some, None, map, subst, arith}
use Rattle.std.specs.Prelude.{if◌then◌else◌}
use Rattle.std.specs.List.{AllByRecursion}
use Rattle.std.specs.Option.{option_map}
use Rattle.ssi_identities.specs.declared.rule.Cmd.{Cmd}
use Rattle.ssi_identities.specs.declared.rule.Cond.{Cond}
use Rattle.ssi_identities.specs.declared.rule.BodyItem.{BodyItem}
use Rattle.ssi_identities.specs.declared.rule.BodyItem.TheVariants.{Do, If}
use Rattle.ssi_identities.specs.declared.rule.Body.{Body}
use Rattle.ssi_identities.specs.States.{State}
use Rattle.ssi_identities.specs.Steps.{Step, Act, Valuation, act_of, act_of_item, act_or_none, after_steps, body_act, body_of, choice_act, command_act, in_turn, item_act, no_act, one_then}
use Rattle.ssi_identities.proofs.Bodies.{body_is, do_is, if_is, body_induction, body_item_cases}

-- a body acts as its items in turn
pub act_of_body : (holds : Valuation) (items : List BodyItem) → act_of holds (body_of items) ≡ in_turn (map (act_of_item holds) items)
act_of_body holds items = body_is Act Act (item_act holds) body_act items

-- an item with items after it
pub act_of_items : (holds : Valuation) (item : BodyItem) (items : List BodyItem) → act_of holds (body_of (item ∷ items)) ≡ one_then (act_of_item holds item) (act_of holds (body_of items))
act_of_items holds item items = act_of_body holds (item ∷ items) ∙ ap (one_then (act_of_item holds item)) (sym (act_of_body holds items))

-- a command
pub act_of_do : (holds : Valuation) (command : Cmd) → act_of_item holds (Do command) ≡ command_act command
act_of_do holds command = do_is Act Act (item_act holds) body_act command

-- a choice
pub act_of_if : (holds : Valuation) (guard : Cond) (body : Body) (other : Option Body) → act_of_item holds (If guard body other) ≡ choice_act (holds guard) (act_of holds body) (act_or_none (option_map (act_of holds) other))
act_of_if holds guard body other = if_is Act Act (item_act holds) body_act guard body other

-- the state after some steps and further ones
pub after_more : (steps more : List Step) (state : State) → after_steps state (steps ++ more) ≡ after_steps (after_steps state steps) more
after_more [] more state = refl
after_more (step ∷ steps) more state = after_more steps more step.after

-- an act leaves one state whatever the number of its first command
pub record LeavesOneState (act : Act) : Type 0 where
  pub same : (first other : ℕ) (state : State) → after_steps state (act.steps first state) ≡ after_steps state (act.steps other state)

-- one act after another leaves one state where each of them does
leaves_then : (act next : Act) → LeavesOneState act → LeavesOneState next → LeavesOneState (one_then act next)
leaves_then act next one next_one = record {
  same = λ first other state.
      after_more (act.steps first state) (next.steps (first + act.commands) (after_steps state (act.steps first state))) state
      ∙ ap (λ s. after_steps s (next.steps (first + act.commands) s)) (one.same first other state)
      ∙ next_one.same (first + act.commands) (other + act.commands) (after_steps state (act.steps other state))
      ∙ sym (after_more (act.steps other state) (next.steps (other + act.commands) (after_steps state (act.steps other state))) state);
}

-- so does a branch, by its guard's value
leaves_branch : (value : Bool) (act next : Act) → LeavesOneState act → LeavesOneState next → (first other : ℕ) (state : State)
    → after_steps state (if value then act.steps first state else next.steps (first + act.commands) state) ≡ after_steps state (if value then act.steps other state else next.steps (other + act.commands) state)
leaves_branch true act next one next_one first other state = one.same first other state
leaves_branch false act next one next_one first other state = next_one.same (first + act.commands) (other + act.commands) state

-- so does a choice where both its branches do
leaves_choice : (guard : State → Bool) (act next : Act) → LeavesOneState act → LeavesOneState next → LeavesOneState (choice_act guard act next)
leaves_choice guard act next one next_one = record { same = λ first other state. leaves_branch (guard state) act next one next_one first other state }

-- so does no act
pub leaves_none : LeavesOneState no_act
leaves_none = record { same = λ first other state. refl }

-- so do items in turn where each of them does
leaves_items : (holds : Valuation) (items : List BodyItem) → AllByRecursion (λ item. LeavesOneState (act_of_item holds item)) items → LeavesOneState (in_turn (map (act_of_item holds) items))
leaves_items holds [] each = leaves_none
leaves_items holds (item ∷ items) each = leaves_then (act_of_item holds item) (in_turn (map (act_of_item holds) items)) each.0 (leaves_items holds items each.1)

-- a body leaves one state whatever the number of its first command
pub body_leaves_one_state : (holds : Valuation) (body : Body) → LeavesOneState (act_of holds body)
body_leaves_one_state holds = body_induction (λ item. LeavesOneState (act_of_item holds item)) (λ body. LeavesOneState (act_of holds body))
    (λ command. subst LeavesOneState (sym (act_of_do holds command)) (record { same = λ first other state. refl }))
    (λ guard body one. subst LeavesOneState (sym (act_of_if holds guard body None)) (leaves_choice (holds guard) (act_of holds body) no_act one leaves_none))
    (λ guard body other one other_one. subst LeavesOneState (sym (act_of_if holds guard body (Some other))) (leaves_choice (holds guard) (act_of holds body) (act_of holds other) one other_one))
    (λ items each. subst LeavesOneState (sym (act_of_body holds items)) (leaves_items holds items each))

-- items in turn have as many commands where each of them has
count_items : (holds other : Valuation) (items : List BodyItem) → AllByRecursion (λ item. (act_of_item holds item).commands ≡ (act_of_item other item).commands) items
    → (in_turn (map (act_of_item holds) items)).commands ≡ (in_turn (map (act_of_item other) items)).commands
count_items holds other [] each = refl
count_items holds other (item ∷ items) each = omega (arith, each.0, count_items holds other items each.1)

-- a body has as many commands whatever its guards say
pub one_count : (holds other : Valuation) (body : Body) → (act_of holds body).commands ≡ (act_of other body).commands
one_count holds other = body_induction (λ item. (act_of_item holds item).commands ≡ (act_of_item other item).commands) (λ body. (act_of holds body).commands ≡ (act_of other body).commands)
    (λ command. ap (λ act. act.commands) (act_of_do holds command ∙ sym (act_of_do other command)))
    (λ guard body same. omega (arith, same, ap (λ act. act.commands) (act_of_if holds guard body None), ap (λ act. act.commands) (act_of_if other guard body None)))
    (λ guard body next same next_same. omega (arith, same, next_same, ap (λ act. act.commands) (act_of_if holds guard body (Some next)), ap (λ act. act.commands) (act_of_if other guard body (Some next))))
    (λ items each. ap (λ act. act.commands) (act_of_body holds items) ∙ count_items holds other items each ∙ sym (ap (λ act. act.commands) (act_of_body other items)))

-- so has a choice
count_branches : (holds other : Valuation) (guard : Cond) (body : Body) (next : Option Body) → (act_of_item holds (If guard body next)).commands ≡ (act_of_item other (If guard body next)).commands
count_branches holds other guard body None = omega (arith, one_count holds other body, ap (λ act. act.commands) (act_of_if holds guard body None), ap (λ act. act.commands) (act_of_if other guard body None))
count_branches holds other guard body (Some next) =
    omega (arith, one_count holds other body, one_count holds other next, ap (λ act. act.commands) (act_of_if holds guard body (Some next)), ap (λ act. act.commands) (act_of_if other guard body (Some next)))

-- an item has as many commands whatever its guards say
pub one_item_count : (holds other : Valuation) (item : BodyItem) → (act_of_item holds item).commands ≡ (act_of_item other item).commands
one_item_count holds other = body_item_cases (λ item. (act_of_item holds item).commands ≡ (act_of_item other item).commands)
    (λ command. ap (λ act. act.commands) (act_of_do holds command ∙ sym (act_of_do other command)))
    (λ guard body next. count_branches holds other guard body next)

-- the state that an act leaves
abbrev pub left_by : Act → State → State
left_by act state = after_steps state (act.steps 0 state)

-- one act after another leaves what the second leaves of what the first has left
left_by_both : (act next : Act) → LeavesOneState next → (state : State) → left_by (one_then act next) state ≡ left_by next (left_by act state)
left_by_both act next one state = after_more (act.steps 0 state) (next.steps (0 + act.commands) (left_by act state)) state ∙ one.same (0 + act.commands) 0 (left_by act state)

-- an item's effect, and then that of the items after it
pub left_by_items : (holds : Valuation) (item : BodyItem) (items : List BodyItem) (state : State) → left_by (act_of holds (body_of (item ∷ items))) state ≡ left_by (act_of holds (body_of items)) (left_by (act_of_item holds item) state)
left_by_items holds item items state =
    ap (λ act. left_by act state) (act_of_items holds item items) ∙ left_by_both (act_of_item holds item) (act_of holds (body_of items)) (body_leaves_one_state holds (body_of items)) state

-- a branch, by its guard's value
left_by_branch : (value : Bool) (act next : Act) → LeavesOneState next → (state : State)
    → after_steps state (if value then act.steps 0 state else next.steps (0 + act.commands) state) ≡ (if value then left_by act state else left_by next state)
left_by_branch true act next one state = refl
left_by_branch false act next one state = one.same (0 + act.commands) 0 state

-- a choice's effect is that of its branch
pub left_by_choice : (guard : State → Bool) (act next : Act) → LeavesOneState next → (state : State) → left_by (choice_act guard act next) state ≡ (if guard state then left_by act state else left_by next state)
left_by_choice guard act next one state = left_by_branch (guard state) act next one state
