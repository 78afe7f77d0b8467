use Rattle.ssi_identities.specs.DataSets.{counts_of}
use Rattle.ssi_cycle.proofs.Changing.{after_is_moment, events_lead, moments_of_layout}
use Rattle.ssi_cycle.proofs.laws.laws_of_moments.Goals as goal

pub returns-clause-chain : goal.returns-clause-chain
returns-clause-chain c = λ plan world events. (events_lead (counts_of plan) plan world events).chain

pub returns-clause-last : goal.returns-clause-last
returns-clause-last c = λ plan world events. (events_lead (counts_of plan) plan world events).last

pub returns-clause-moment : goal.returns-clause-moment
returns-clause-moment c = after_is_moment

pub returns-clause-states : goal.returns-clause-states
returns-clause-states c = moments_of_layout
