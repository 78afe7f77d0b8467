use Rattle.ssi_identities.proofs.Laws.{steps_of_do, steps_of_if, steps_of_if_else, steps_of_items, steps_of_none}
use Rattle.ssi_identities.proofs.meaning.laws_of_steps.Goals as goal

pub returns-clause-no_item : goal.returns-clause-no_item
returns-clause-no_item c = steps_of_none

pub returns-clause-items : goal.returns-clause-items
returns-clause-items c = steps_of_items

pub returns-clause-command : goal.returns-clause-command
returns-clause-command c = steps_of_do

pub returns-clause-choice : goal.returns-clause-choice
returns-clause-choice c = steps_of_if

pub returns-clause-choice_with_else : goal.returns-clause-choice_with_else
returns-clause-choice_with_else c = steps_of_if_else
