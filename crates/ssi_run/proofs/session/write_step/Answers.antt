use Rattle.ssi_run.proofs.Pieces.{one_written}
use Rattle.ssi_run.proofs.session.write_step.Goals as goal

pub returns-in-Panel-clause-writes : goal.returns-in-Panel-clause-writes
returns-in-Panel-clause-writes g c = rw c.in-Panel.is (one_written _ _ c.put_request.ensures.writes)
