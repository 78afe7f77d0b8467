use Rattle.ssi_base.proofs.Writing.{joins}
use Rattle.ssi_base.proofs.output.write_three.Goals as goal

pub returns-in_err-write_all-2 : goal.returns-in_err-write_all-2
returns-in_err-write_all-2 g c = search joins

pub returns : goal.returns
returns g c = search joins
