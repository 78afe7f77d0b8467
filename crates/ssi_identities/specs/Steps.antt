-- What a body makes of a state: the steps of its commands, and the state after the last of them.
use Rattle.std.specs.Prelude.{ℕ, ◌+◌, Bool, true, if◌then◌else◌, List, [], ◌∷◌, ◌++◌, Option, Some, None}
use Rattle.ssi_identities.specs.declared.rule.Cmd.{Cmd}
use Rattle.ssi_identities.specs.declared.rule.Cond.{Cond}
use Rattle.ssi_identities.specs.declared.rule.BodyItem.{BodyItem, fold-BodyItem}
use Rattle.ssi_identities.specs.declared.rule.BodyItem.TheOpen.{BodyItem-F, Body-F}
use Rattle.ssi_identities.specs.declared.rule.Body.{Body, fold-Body}
use Rattle.ssi_identities.specs.DataSets.{Plan}
use Rattle.ssi_identities.specs.States.{State, Setting, after_setting}
use Rattle.ssi_identities.specs.Values.{value_of}

-- what a command sets: its fact, to its value
abbrev pub sets : Cmd → Option Setting
sets command = Some (record { fact = command.fact; value = command.value })

-- the state in which a fact has got its value, where there is one to be set
abbrev pub after_one : State → Option Setting → State
after_one state None = state
after_one state (Some setting) = after_setting state setting

-- a command sets what it says
abbrev pub obey : Cmd → State → State
obey command state = after_one state (sets command)

-- what one command did: the states before and after it, and its number among the commands of its body
pub record Step : Type 0 where
  pub before : State
  pub number : ℕ
  pub command : Cmd
  pub after : State

-- the step of a command of this number in this state
abbrev pub step_of : Cmd → ℕ → State → Step
step_of command number state = record { before = state; number = number; command = command; after = obey command state }

-- the state after the last of these steps; the one before them where there is none
abbrev pub after_steps : State → List Step → State
after_steps state [] = state
after_steps state (step ∷ steps) = after_steps step.after steps

-- what acts on a state: how many commands it has, and the steps that it makes where its commands are numbered from a first number on
pub record Act : Type 0 where
  pub commands : ℕ
  pub steps : ℕ → State → List Step

-- no command
abbrev pub no_act : Act
no_act = record { commands = 0; steps = λ first state. [] }

-- one command
abbrev pub command_act : Cmd → Act
command_act command = record { commands = 1; steps = λ first state. step_of command first state ∷ [] }

-- the guard is valued in the state just before its branch; whichever branch is taken, the commands of the second are numbered after those of the first
abbrev pub choice_act : (State → Bool) → Act → Act → Act
choice_act guard then_act else_act = record {
  commands = then_act.commands + else_act.commands;
  steps = λ first state. if guard state then then_act.steps first state else else_act.steps (first + then_act.commands) state;
}

-- one act and then another, from the state that the first has left
abbrev pub one_then : Act → Act → Act
one_then act next = record {
  commands = act.commands + next.commands;
  steps = λ first state. act.steps first state ++ next.steps (first + act.commands) (after_steps state (act.steps first state));
}

-- one act after another
abbrev pub in_turn : List Act → Act
in_turn [] = no_act
in_turn (act ∷ acts) = one_then act (in_turn acts)

-- a choice without an else does nothing there
abbrev pub act_or_none : Option Act → Act
act_or_none None = no_act
act_or_none (Some act) = act

-- how guards are valued in states
abbrev pub Valuation : Type 0
Valuation = Cond → State → Bool

-- what an item of a body does, where it is known what its branches do
abbrev pub item_act : Valuation → BodyItem-F Act Act → Act
item_act holds (BodyItem-F.Do command) = command_act command
item_act holds (BodyItem-F.If guard then_act else_act) = choice_act (holds guard) then_act (act_or_none else_act)

-- the items of a body act one after another
abbrev pub body_act : Body-F Act Act → Act
body_act body = in_turn body.items

-- what an item of a body does
abbrev pub act_of_item : Valuation → BodyItem → Act
act_of_item holds = fold-BodyItem Act Act (item_act holds) body_act

-- what a body does
abbrev pub act_of : Valuation → Body → Act
act_of holds = fold-Body Act Act (item_act holds) body_act

-- how many commands an item of a body has, in both branches of each choice
abbrev pub item_command_count_of : BodyItem → ℕ
item_command_count_of item = (act_of_item (λ cond state. true) item).commands

-- how many commands a body has, in both branches of each choice
abbrev pub command_count_of : Body → ℕ
command_count_of body = (act_of (λ cond state. true) body).commands

-- guards are valued as conditions of the data set, with the report's byte
abbrev pub guards_of : Plan → ℕ → Valuation
guards_of plan report cond state = value_of plan cond state report

-- the steps that an item makes of a state, its commands numbered in written order from a first number on
abbrev pub item_steps_from : Plan → BodyItem → ℕ → State → ℕ → List Step
item_steps_from plan item first state report = (act_of_item (guards_of plan report) item).steps first state

-- the steps that a body makes of a state, its commands numbered in written order from a first number on
abbrev pub steps_from : Plan → Body → ℕ → State → ℕ → List Step
steps_from plan body first state report = (act_of (guards_of plan report) body).steps first state

-- the steps that a body makes of a state, its commands numbered in written order from 0 on
abbrev pub steps_of : Plan → Body → State → ℕ → List Step
steps_of plan body state report = steps_from plan body 0 state report

-- what an item makes of a state: the state after the last of its steps
abbrev pub item_effect_of : Plan → BodyItem → State → ℕ → State
item_effect_of plan item state report = after_steps state (item_steps_from plan item 0 state report)

-- what a body makes of a state: the state after the last of its steps
abbrev pub effect_of : Plan → Body → State → ℕ → State
effect_of plan body state report = after_steps state (steps_of plan body state report)

-- a body of these items
abbrev pub body_of : List BodyItem → Body
body_of items = record { items = items }
