use Rattle.ssi_run.proofs.EndingLaws.{answer, complete, no_shape_is, nothing_is, part_is, past_limit_is, shapeless, source_fault, to_end, untouched, within_is}
use Rattle.ssi_run.proofs.Others.{drives_its_own}
use Rattle.ssi_run.proofs.program.laws_of_endings.Goals as goal

pub returns-clause-answer : goal.returns-clause-answer
returns-clause-answer c = answer

pub returns-clause-no_shape : goal.returns-clause-no_shape
returns-clause-no_shape c = no_shape_is

pub returns-clause-shapeless : goal.returns-clause-shapeless
returns-clause-shapeless c = shapeless

pub returns-clause-to_end : goal.returns-clause-to_end
returns-clause-to_end c = to_end

pub returns-clause-past_limit : goal.returns-clause-past_limit
returns-clause-past_limit c = past_limit_is

pub returns-clause-within : goal.returns-clause-within
returns-clause-within c = within_is

pub returns-clause-source_fault : goal.returns-clause-source_fault
returns-clause-source_fault c = source_fault

pub returns-clause-sink_fault : goal.returns-clause-sink_fault
returns-clause-sink_fault c = λ command seen ends. (part_is command seen ends).0

pub returns-clause-part : goal.returns-clause-part
returns-clause-part c = λ command seen ends. (part_is command seen ends).1

pub returns-clause-nothing : goal.returns-clause-nothing
returns-clause-nothing c = nothing_is

pub returns-clause-untouched : goal.returns-clause-untouched
returns-clause-untouched c = untouched

pub returns-clause-complete : goal.returns-clause-complete
returns-clause-complete c = complete

pub returns-clause-others : goal.returns-clause-others
returns-clause-others c = drives_its_own c.laws_of_resolving.ensures c.one_script.ensures.can c.others_stay.ensures.pieces c.others_stay.ensures.behind
