use Rattle.ssi_base.proofs.Writing.{joins}
use Rattle.ssi_base.proofs.output.write_two.Goals as goal

pub returns : goal.returns
returns g c = search joins
