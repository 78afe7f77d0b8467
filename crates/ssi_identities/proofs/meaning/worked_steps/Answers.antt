use Rattle.std.proofs.Common.{true, false, ap}
use Rattle.ssi_identities.specs.WorkedExamples.{flags}
use Rattle.ssi_identities.proofs.Examples.{goes_on_by, goes_on_in, looks_by, looks_in}
use Rattle.ssi_identities.proofs.meaning.worked_steps.Goals as goal

pub returns-clause-count_within : goal.returns-clause-count_within
returns-clause-count_within c = ap (λ act. act.commands) (looks_by (λ cond state. true))

pub returns-clause-count_on : goal.returns-clause-count_on
returns-clause-count_on c = ap (λ act. act.commands) (goes_on_by (λ cond state. true))

pub returns-clause-inner_branch : goal.returns-clause-inner_branch
returns-clause-inner_branch c = λ report. ap (λ act. act.steps 0 (flags false false)) (looks_in report)

pub returns-clause-no_branch : goal.returns-clause-no_branch
returns-clause-no_branch c = λ l2 report. ap (λ act. act.steps 0 (flags true l2)) (looks_in report)

pub returns-clause-then_taken : goal.returns-clause-then_taken
returns-clause-then_taken c = λ report. ap (λ act. act.steps 0 (flags true false)) (goes_on_in report)

pub returns-clause-else_taken : goal.returns-clause-else_taken
returns-clause-else_taken c = λ report. ap (λ act. act.steps 0 (flags false false)) (goes_on_in report)
