use Rattle.ssi_cycle.proofs.Sharing.{each_once, enough, least}
use Rattle.ssi_cycle.proofs.laws.laws_of_slots.Goals as goal

pub returns-clause-enough : goal.returns-clause-enough
returns-clause-enough c = enough

pub returns-clause-least : goal.returns-clause-least
returns-clause-least c = least

pub returns-clause-each_once : goal.returns-clause-each_once
returns-clause-each_once c = each_once
