use Rattle.std.proofs.Common.{true, false}
use Rattle.ssi_identities.specs.Values.{scene_of}
use Rattle.ssi_identities.specs.WorkedExamples.{flags, two_flags}
use Rattle.ssi_identities.proofs.Examples.{bit_is_holds, l1_and_l2_hold, l1_holds, no_fact_holds}
use Rattle.ssi_identities.proofs.meaning.worked_conditions.Goals as goal

pub returns-clause-set : goal.returns-clause-set
returns-clause-set c = λ report. l1_holds (scene_of two_flags (flags true false) report) true

pub returns-clause-unset : goal.returns-clause-unset
returns-clause-unset c = λ report. l1_holds (scene_of two_flags (flags true false) report) false

pub returns-clause-all : goal.returns-clause-all
returns-clause-all c = λ report. l1_and_l2_hold (scene_of two_flags (flags true false) report)

pub returns-clause-not_all : goal.returns-clause-not_all
returns-clause-not_all c = λ report. l1_and_l2_hold (scene_of two_flags (flags true true) report)

pub returns-clause-past_the_end : goal.returns-clause-past_the_end
returns-clause-past_the_end c = λ report. no_fact_holds (scene_of two_flags (flags true true) report)

pub returns-clause-bit_is_one : goal.returns-clause-bit_is_one
returns-clause-bit_is_one c = λ l1 l2. bit_is_holds (scene_of two_flags (flags l1 l2) 0b0000_0100) 2 true

pub returns-clause-bit_is_not_one : goal.returns-clause-bit_is_not_one
returns-clause-bit_is_not_one c = λ l1 l2. bit_is_holds (scene_of two_flags (flags l1 l2) 0b1111_1011) 2 true

pub returns-clause-bit_is_zero : goal.returns-clause-bit_is_zero
returns-clause-bit_is_zero c = λ l1 l2. bit_is_holds (scene_of two_flags (flags l1 l2) 0b0111_1111) 7 false
