-- What the reader of a script answers, by what the reader of its steps answers.
use Rattle.std.proofs.Common.{◌≡◌, ◌≤◌, Result, Ok, Err}
use Rattle.std.specs.Prelude.{All, IfOk}
use Rattle.ssi_base.specs.declared.memory.OutOfMemory.{OutOfMemory}
use Rattle.ssi_identities.specs.DataSets.{Plan}
use Rattle.ssi_identities.specs.Wells.{IsWell}
use Rattle.ssi_lexer.specs.Readings.{Reading}
use Rattle.ssi_script.specs.declared.script.ScriptList.{ScriptList}
use Rattle.ssi_script.specs.Meanings.{IsStepOf, cycles_in, most_cycles}
use Rattle.ssi_script.specs.Scripts.{AreSteps, IsScript}
use Rattle.ssi_script.specs.StepReading.{header}
use Rattle.ssi_script.proofs.Doing.{script_can, script_within}
use Rattle.ssi_script.proofs.ScriptLaws.{behind_header}

-- the list is the script of the tokens
abbrev pub IsOf : Plan → Reading → ScriptList → Type 0
IsOf plan tokens script = IsScript plan tokens.text tokens.left tokens.end script.steps.items script.fault

module _ (plan : Plan) (old new : Reading) where
  pub scripts_of : (r : Result ScriptList OutOfMemory) → new.text ≡ old.text → new.end ≡ old.end → (x : Unit {0}) → header old.left ≡ Ok (x, new.left)
      → IfOk r (λ script. AreSteps plan new.text 0 new.left new.end script.steps.items script.fault) → IfOk r (IsOf plan old)
  scripts_of (Ok script) text end x read are =
      let here = rw (text, end) at are in
      behind_header plan old.text old.left old.end x new.left script.steps.items script.fault read here
  scripts_of (Err refused) text end x read are = tt

module _ (plan : Plan) (tokens : Reading) where
  pub all_can : (r : Result ScriptList OutOfMemory) → IsWell plan → IfOk r (IsOf plan tokens) → IfOk r (λ script. All (IsStepOf plan) script.steps.items)
  all_can (Ok script) well is = script_can plan well tokens.text tokens.left tokens.end script.steps.items script.fault is
  all_can (Err refused) well is = tt

  pub all_within : (r : Result ScriptList OutOfMemory) → IfOk r (IsOf plan tokens) → IfOk r (λ script. cycles_in script.steps.items ≤ most_cycles)
  all_within (Ok script) is = script_within plan tokens.text tokens.left tokens.end script.steps.items script.fault is
  all_within (Err refused) is = tt
