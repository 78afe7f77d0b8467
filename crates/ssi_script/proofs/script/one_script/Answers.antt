use Rattle.ssi_script.proofs.Doing.{script_can}
use Rattle.ssi_script.proofs.ScriptLaws.{same_script, some_script}
use Rattle.ssi_script.proofs.script.one_script.Goals as goal

pub returns-clause-some : goal.returns-clause-some
returns-clause-some c = some_script

pub returns-clause-one : goal.returns-clause-one
returns-clause-one c = same_script

pub returns-clause-can : goal.returns-clause-can
returns-clause-can c = λ plan text left end steps fault well script. script_can plan well text left end steps fault script
