use Rattle.ssi_identities.proofs.FactNumbers.{same_fact}
use Rattle.ssi_identities.proofs.fact.one_fact.Goals as goal

pub returns : goal.returns
returns c = same_fact
