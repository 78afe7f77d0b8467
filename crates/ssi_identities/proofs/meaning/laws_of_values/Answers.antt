use Rattle.ssi_identities.specs.Values.{move_scene}
use Rattle.ssi_identities.proofs.Values.{bit_holds, bit_of_report, free_holds, free_in, group_of_more, group_of_none, holds_of_items, holds_of_none, lit_holds}
use Rattle.ssi_identities.proofs.meaning.laws_of_values.Goals as goal

pub returns-clause-no_item : goal.returns-clause-no_item
returns-clause-no_item c = holds_of_none

pub returns-clause-items : goal.returns-clause-items
returns-clause-items c = holds_of_items

pub returns-clause-fact : goal.returns-clause-fact
returns-clause-fact c = lit_holds

pub returns-clause-bit : goal.returns-clause-bit
returns-clause-bit c = bit_holds

pub returns-clause-free : goal.returns-clause-free
returns-clause-free c = free_holds

pub returns-clause-no_alternative : goal.returns-clause-no_alternative
returns-clause-no_alternative c = group_of_none

pub returns-clause-alternatives : goal.returns-clause-alternatives
returns-clause-alternatives c = group_of_more

pub returns-clause-bit_of_the_report : goal.returns-clause-bit_of_the_report
returns-clause-bit_of_the_report c = bit_of_report

pub returns-clause-controlled_or_free : goal.returns-clause-controlled_or_free
returns-clause-controlled_or_free c = free_in

pub returns-clause-no_points_in_turn : goal.returns-clause-no_points_in_turn
returns-clause-no_points_in_turn c = λ state report. free_holds (move_scene state report)
