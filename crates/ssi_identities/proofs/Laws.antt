-- The laws of bodies, item by item: how many commands they have, which steps they make, and what they make of a state.
use Rattle.std.proofs.Common.{◌≡◌, ap, sym, ◌∙◌, ℕ, ◌+◌, ◌<◌, ◌≤◌, length, get_or, drop, true, List, [], ◌∷◌, ◌++◌, Some, None, arith}
use Rattle.std.specs.Prelude.{if◌then◌else◌}
use Rattle.std.proofs.lemmas.List.{at_drop_all, at_drop_more}
use Rattle.ssi_identities.specs.declared.rule.Cmd.{Cmd}
use Rattle.ssi_identities.specs.declared.rule.Cond.{Cond}
use Rattle.ssi_identities.specs.declared.rule.BodyItem.{BodyItem}
use Rattle.ssi_identities.specs.declared.rule.BodyItem.TheVariants.{Do, If}
use Rattle.ssi_identities.specs.declared.rule.Body.{Body}
use Rattle.ssi_identities.specs.DataSets.{Plan}
use Rattle.ssi_identities.specs.States.{State}
use Rattle.ssi_identities.specs.Values.{value_of}
use Rattle.ssi_identities.specs.Steps.{Valuation, act_of, after_steps, body_of, command_count_of, effect_of, guards_of, item_command_count_of, item_effect_of, item_steps_from, no_act, obey, step_of, steps_from}
use Rattle.ssi_identities.proofs.Acts.{act_of_body, act_of_do, act_of_if, act_of_items, body_leaves_one_state, leaves_none, left_by, left_by_choice, left_by_items, one_count, one_item_count}

-- guards that hold everywhere, by which commands are counted
abbrev always : Valuation
always cond state = true

-- the commands of no item
pub count_of_none : command_count_of (body_of []) ≡ 0
count_of_none = ap (λ act. act.commands) (act_of_body always [])

-- the commands of an item and of those after it
pub count_of_items : (item : BodyItem) (items : List BodyItem) → command_count_of (body_of (item ∷ items)) ≡ item_command_count_of item + command_count_of (body_of items)
count_of_items item items = ap (λ act. act.commands) (act_of_items always item items)

-- a command is one
pub count_of_do : (command : Cmd) → item_command_count_of (Do command) ≡ 1
count_of_do command = ap (λ act. act.commands) (act_of_do always command)

-- the commands of a choice without an else
pub count_of_if : (guard : Cond) (body : Body) → item_command_count_of (If guard body None) ≡ command_count_of body
count_of_if guard body = omega (arith, ap (λ act. act.commands) (act_of_if always guard body None))

-- the commands of a choice with an else
pub count_of_if_else : (guard : Cond) (body other : Body) → item_command_count_of (If guard body (Some other)) ≡ command_count_of body + command_count_of other
count_of_if_else guard body other = ap (λ act. act.commands) (act_of_if always guard body (Some other))

-- a body has as many commands whatever its guards say
pub count_by_any_guards : (holds : Valuation) (body : Body) → (act_of holds body).commands ≡ command_count_of body
count_by_any_guards holds body = one_count holds always body

-- the steps of no item
pub steps_of_none : (plan : Plan) (first : ℕ) (state : State) (report : ℕ) → steps_from plan (body_of []) first state report ≡ []
steps_of_none plan first state report = ap (λ act. act.steps first state) (act_of_body (guards_of plan report) [])

-- the steps of an item, and then those of the items after it
pub steps_of_items : (plan : Plan) (item : BodyItem) (items : List BodyItem) (first : ℕ) (state : State) (report : ℕ) → steps_from plan (body_of (item ∷ items)) first state report
    ≡ (let steps = item_steps_from plan item first state report in steps ++ steps_from plan (body_of items) (first + item_command_count_of item) (after_steps state steps) report)
steps_of_items plan item items first state report =
    let holds = guards_of plan report in
    let steps = item_steps_from plan item first state report in
    ap (λ act. act.steps first state) (act_of_items holds item items)
    ∙ ap (λ count. steps ++ steps_from plan (body_of items) (first + count) (after_steps state steps) report) (one_item_count holds always item)

-- a command makes its step
pub steps_of_do : (plan : Plan) (command : Cmd) (first : ℕ) (state : State) (report : ℕ) → item_steps_from plan (Do command) first state report ≡ step_of command first state ∷ []
steps_of_do plan command first state report = ap (λ act. act.steps first state) (act_of_do (guards_of plan report) command)

-- the steps of a choice without an else
pub steps_of_if : (plan : Plan) (guard : Cond) (body : Body) (first : ℕ) (state : State) (report : ℕ) → item_steps_from plan (If guard body None) first state report
    ≡ (if value_of plan guard state report then steps_from plan body first state report else [])
steps_of_if plan guard body first state report = ap (λ act. act.steps first state) (act_of_if (guards_of plan report) guard body None)

-- the steps of a choice with an else
pub steps_of_if_else : (plan : Plan) (guard : Cond) (body other : Body) (first : ℕ) (state : State) (report : ℕ) → item_steps_from plan (If guard body (Some other)) first state report
    ≡ (if value_of plan guard state report then steps_from plan body first state report else steps_from plan other (first + command_count_of body) state report)
steps_of_if_else plan guard body other first state report =
    let holds = guards_of plan report in
    ap (λ act. act.steps first state) (act_of_if holds guard body (Some other))
    ∙ ap (λ count. if value_of plan guard state report then steps_from plan body first state report else steps_from plan other (first + count) state report) (one_count holds always body)

-- no item changes nothing
pub effect_of_none : (plan : Plan) (state : State) (report : ℕ) → effect_of plan (body_of []) state report ≡ state
effect_of_none plan state report = ap (λ act. left_by act state) (act_of_body (guards_of plan report) [])

-- the items after an item act on the state that it leaves
pub effect_of_items : (plan : Plan) (item : BodyItem) (items : List BodyItem) (state : State) (report : ℕ) → effect_of plan (body_of (item ∷ items)) state report ≡ effect_of plan (body_of items) (item_effect_of plan item state report) report
effect_of_items plan item items state report = left_by_items (guards_of plan report) item items state

-- a command is obeyed
pub effect_of_do : (plan : Plan) (command : Cmd) (state : State) (report : ℕ) → item_effect_of plan (Do command) state report ≡ obey command state
effect_of_do plan command state report = ap (λ act. left_by act state) (act_of_do (guards_of plan report) command)

-- the effect of a choice without an else
pub effect_of_if : (plan : Plan) (guard : Cond) (body : Body) (state : State) (report : ℕ) → item_effect_of plan (If guard body None) state report
    ≡ (if value_of plan guard state report then effect_of plan body state report else state)
effect_of_if plan guard body state report =
    let holds = guards_of plan report in
    ap (λ act. left_by act state) (act_of_if holds guard body None) ∙ left_by_choice (holds guard) (act_of holds body) no_act leaves_none state

-- the effect of a choice with an else
pub effect_of_if_else : (plan : Plan) (guard : Cond) (body other : Body) (state : State) (report : ℕ) → item_effect_of plan (If guard body (Some other)) state report
    ≡ (if value_of plan guard state report then effect_of plan body state report else effect_of plan other state report)
effect_of_if_else plan guard body other state report =
    let holds = guards_of plan report in
    ap (λ act. left_by act state) (act_of_if holds guard body (Some other)) ∙ left_by_choice (holds guard) (act_of holds body) (act_of holds other) (body_leaves_one_state holds other) state

-- going over a body's items: the item at a place acts, and then those after it
pub effect_of_next : (plan : Plan) (items : List BodyItem) (i : ℕ) (item : BodyItem) (state : State) (report : ℕ) → i < length items → item ≡ get_or items i item
    → effect_of plan (body_of (drop i items)) state report ≡ effect_of plan (body_of (drop (i + 1) items)) (item_effect_of plan item state report) report
effect_of_next plan items i item state report within is =
    at_drop_more (λ rest. effect_of plan (body_of rest) state report) items i item within
    ∙ effect_of_items plan (get_or items i item) (drop (i + 1) items) state report
    ∙ ap (λ x. effect_of plan (body_of (drop (i + 1) items)) (item_effect_of plan x state report) report) (sym is)

-- going over a body's items: past the last nothing changes
pub effect_past_last : (plan : Plan) (items : List BodyItem) (i : ℕ) (state : State) (report : ℕ) → length items ≤ i → effect_of plan (body_of (drop i items)) state report ≡ state
effect_past_last plan items i state report past = at_drop_all (λ rest. effect_of plan (body_of rest) state report) items i past ∙ effect_of_none plan state report
