use Rattle.ssi_identities.proofs.Laws.{count_by_any_guards, count_of_do, count_of_if, count_of_if_else, count_of_items, count_of_none}
use Rattle.ssi_identities.proofs.meaning.laws_of_command_counts.Goals as goal

pub returns-clause-no_item : goal.returns-clause-no_item
returns-clause-no_item c = count_of_none

pub returns-clause-items : goal.returns-clause-items
returns-clause-items c = count_of_items

pub returns-clause-command : goal.returns-clause-command
returns-clause-command c = count_of_do

pub returns-clause-choice : goal.returns-clause-choice
returns-clause-choice c = count_of_if

pub returns-clause-choice_with_else : goal.returns-clause-choice_with_else
returns-clause-choice_with_else c = count_of_if_else

pub returns-clause-any_guards : goal.returns-clause-any_guards
returns-clause-any_guards c = count_by_any_guards
