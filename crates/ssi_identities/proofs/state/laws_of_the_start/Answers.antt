use Rattle.ssi_identities.proofs.Starts.{state_at_start, value_at_start}
use Rattle.ssi_identities.proofs.state.laws_of_the_start.Goals as goal

pub returns-clause-state : goal.returns-clause-state
returns-clause-state c = state_at_start

pub returns-clause-value : goal.returns-clause-value
returns-clause-value c = value_at_start
