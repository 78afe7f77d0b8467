use Rattle.std.proofs.Common.{true, false, ap}
use Rattle.ssi_identities.specs.Steps.{guards_of}
use Rattle.ssi_identities.specs.WorkedExamples.{flags, two_flags}
use Rattle.ssi_identities.proofs.Acts.{left_by}
use Rattle.ssi_identities.proofs.Examples.{copies_in, looks_in, no_fact_by, resets_by, undoes_in}
use Rattle.ssi_identities.proofs.meaning.worked_bodies.Goals as goal

pub returns-clause-later_item_sees : goal.returns-clause-later_item_sees
returns-clause-later_item_sees c = λ report. ap (λ act. left_by act (flags false false)) (looks_in report)

pub returns-clause-false_guard : goal.returns-clause-false_guard
returns-clause-false_guard c = λ l2 report. ap (λ act. left_by act (flags true l2)) (looks_in report)

pub returns-clause-guard_once : goal.returns-clause-guard_once
returns-clause-guard_once c = λ report. ap (λ act. left_by act (flags false false)) (undoes_in report)

pub returns-clause-then_taken : goal.returns-clause-then_taken
returns-clause-then_taken c = λ l2 report. ap (λ act. left_by act (flags true l2)) (copies_in report)

pub returns-clause-else_taken : goal.returns-clause-else_taken
returns-clause-else_taken c = λ l2 report. ap (λ act. left_by act (flags false l2)) (copies_in report)

pub returns-clause-last_wins : goal.returns-clause-last_wins
returns-clause-last_wins c = λ l1 l2 report. ap (λ act. left_by act (flags l1 l2)) (resets_by (guards_of two_flags report))

pub returns-clause-past_the_end : goal.returns-clause-past_the_end
returns-clause-past_the_end c = λ l1 l2 report. ap (λ act. left_by act (flags l1 l2)) (no_fact_by (guards_of two_flags report))
