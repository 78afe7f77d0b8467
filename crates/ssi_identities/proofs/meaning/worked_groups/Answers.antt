use Rattle.std.proofs.Common.{◌≡◌, Bool, true, false, refl, ◌∙◌, ◌&&◌, ◌||◌}
use Rattle.ssi_identities.specs.Values.{scene_of}
use Rattle.ssi_identities.specs.WorkedExamples.{flags, two_flags}
use Rattle.ssi_identities.proofs.Examples.{nested_hold, no_alternative_holds, one_is_set_holds}
use Rattle.ssi_identities.proofs.meaning.worked_groups.Goals as goal

-- where the second alternative holds, the group does
second_holds : (l1 : Bool) → ((l1 && true || (true || false)) && true) ≡ true
second_holds true = refl
second_holds false = refl

pub returns-clause-first : goal.returns-clause-first
returns-clause-first c = λ l2 report. one_is_set_holds (scene_of two_flags (flags true l2) report)

pub returns-clause-second : goal.returns-clause-second
returns-clause-second c = λ l1 report. one_is_set_holds (scene_of two_flags (flags l1 true) report) ∙ second_holds l1

pub returns-clause-neither : goal.returns-clause-neither
returns-clause-neither c = λ report. one_is_set_holds (scene_of two_flags (flags false false) report)

pub returns-clause-no_alternative : goal.returns-clause-no_alternative
returns-clause-no_alternative c = λ l1 l2 report. no_alternative_holds (scene_of two_flags (flags l1 l2) report)

pub returns-clause-outer : goal.returns-clause-outer
returns-clause-outer c = λ report. nested_hold (scene_of two_flags (flags true true) report)

pub returns-clause-outer_fails : goal.returns-clause-outer_fails
returns-clause-outer_fails c = λ report. nested_hold (scene_of two_flags (flags true false) report)

pub returns-clause-inner_first : goal.returns-clause-inner_first
returns-clause-inner_first c = λ report. nested_hold (scene_of two_flags (flags false false) report)

pub returns-clause-inner_second : goal.returns-clause-inner_second
returns-clause-inner_second c = nested_hold (scene_of two_flags (flags false true) 0b1111_1110)

pub returns-clause-inner_fails : goal.returns-clause-inner_fails
returns-clause-inner_fails c = nested_hold (scene_of two_flags (flags false true) 0b0000_0001)
