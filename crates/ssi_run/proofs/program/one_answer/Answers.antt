use Rattle.ssi_run.proofs.OneAnswer.{one, one_status}
use Rattle.ssi_run.proofs.SomeAnswer.{some}
use Rattle.ssi_run.proofs.program.one_answer.Goals as goal

pub returns-clause-some : goal.returns-clause-some
returns-clause-some c = some c.one_script.ensures.some c.one_source_tree.ensures.finding c.one_cutting.ensures.some

pub returns-clause-status : goal.returns-clause-status
returns-clause-status c = one_status c.one_script.ensures.one c.one_source_tree.ensures.finding c.one_cutting.ensures.one

pub returns-clause-one : goal.returns-clause-one
returns-clause-one c = one c.one_script.ensures.one c.one_source_tree.ensures.finding c.one_cutting.ensures.one
