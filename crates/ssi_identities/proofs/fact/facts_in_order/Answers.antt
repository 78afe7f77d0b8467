use Rattle.ssi_identities.proofs.FactOrder.{all_facts, in_order}
use Rattle.ssi_identities.proofs.Numbering.{in_numbers}
use Rattle.ssi_identities.proofs.fact.facts_in_order.Goals as goal

pub returns-clause-count : goal.returns-clause-count
returns-clause-count c = all_facts

pub returns-clause-place : goal.returns-clause-place
returns-clause-place c = in_order

pub returns-clause-numbers : goal.returns-clause-numbers
returns-clause-numbers c = in_numbers
