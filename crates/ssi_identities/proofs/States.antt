-- What changes leave of a state.
use Rattle.std.proofs.Common.{ℕ, Bool, List, [], ◌∷◌, Option, Some, None, ◌∙◌}
use Rattle.std.proofs.lemmas.List.{length-set}
use Rattle.ssi_identities.specs.declared.fact.Counts.{Counts}
use Rattle.ssi_identities.specs.declared.rule.Cmd.{Cmd}
use Rattle.ssi_identities.specs.States.{IsStateOf, Setting, State, after_setting, after_settings, with_truth}
use Rattle.ssi_identities.specs.Steps.{after_one, obey, sets}

-- a state of a layout is one still with another value of a fact
pub keeps_with_truth : (counts : Counts) (state : State) (fact : ℕ) (value : Bool) → IsStateOf counts state → IsStateOf counts (with_truth state fact value)
keeps_with_truth counts state fact value of = record { facts = length-set state.facts fact value ∙ of.facts }

-- so it is after settings
pub keeps_after_settings : (counts : Counts) (settings : List Setting) (state : State) → IsStateOf counts state → IsStateOf counts (after_settings state settings)
keeps_after_settings counts [] state of = of
keeps_after_settings counts (setting ∷ settings) state of = keeps_after_settings counts settings (after_setting state setting) (keeps_with_truth counts state setting.fact setting.value of)

keeps_after_one : (counts : Counts) (setting : Option Setting) (state : State) → IsStateOf counts state → IsStateOf counts (after_one state setting)
keeps_after_one counts None state of = of
keeps_after_one counts (Some setting) state of = keeps_with_truth counts state setting.fact setting.value of

-- and after a command
pub keeps_obeyed : (counts : Counts) (command : Cmd) (state : State) → IsStateOf counts state → IsStateOf counts (obey command state)
keeps_obeyed counts command state of = keeps_after_one counts (sets command) state of
