use Rattle.ssi_identities.specs.DataSets.{counts_of}
use Rattle.ssi_cycle.specs.Restrictions.{restriction_of_module}
use Rattle.ssi_cycle.proofs.Blocks.{each_deed}
use Rattle.ssi_cycle.proofs.Changing.{deed_leads}
use Rattle.ssi_cycle.proofs.Restricting.{others_stay}
use Rattle.ssi_cycle.proofs.laws.laws_of_deeds.Goals as goal

pub returns-clause-each : goal.returns-clause-each
returns-clause-each c = each_deed

pub returns-clause-state : goal.returns-clause-state
returns-clause-state c = λ plan state deed. (deed_leads (counts_of plan) plan state deed).keeps

pub returns-clause-chain : goal.returns-clause-chain
returns-clause-chain c = λ plan state deed. (deed_leads (counts_of plan) plan state deed).chain

pub returns-clause-last : goal.returns-clause-last
returns-clause-last c = λ plan state deed. (deed_leads (counts_of plan) plan state deed).last

pub returns-clause-others : goal.returns-clause-others
returns-clause-others c = λ plan row state fact. others_stay (restriction_of_module plan row) state fact
