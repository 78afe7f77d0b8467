use Rattle.ssi_identities.proofs.Laws.{effect_of_do, effect_of_if, effect_of_if_else, effect_of_items, effect_of_none}
use Rattle.ssi_identities.proofs.meaning.laws_of_effects.Goals as goal

pub returns-clause-no_item : goal.returns-clause-no_item
returns-clause-no_item c = effect_of_none

pub returns-clause-items : goal.returns-clause-items
returns-clause-items c = effect_of_items

pub returns-clause-command : goal.returns-clause-command
returns-clause-command c = effect_of_do

pub returns-clause-choice : goal.returns-clause-choice
returns-clause-choice c = effect_of_if

pub returns-clause-choice_with_else : goal.returns-clause-choice_with_else
returns-clause-choice_with_else c = effect_of_if_else
