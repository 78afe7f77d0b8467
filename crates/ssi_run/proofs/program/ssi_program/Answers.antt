use Rattle.std.proofs.Common.{◌≡◌, Some, None, ap, refl, sym, ◌∙◌}
use Rattle.ssi_run.specs.declared.words.Command.{Command}
use Rattle.ssi_run.specs.declared.words.Command.TheVariants.{Run}
use Rattle.ssi_run.specs.Statuses.{number_after}
use Rattle.ssi_run.specs.Words.{command_of, texts}
use Rattle.ssi_run.specs.declared.status.Status.TheVariants.{NoShape}
use Rattle.ssi_run.proofs.Ending.{ended_usage}
use Rattle.ssi_run.proofs.EndingLaws.{not_told, source_or_memory}
use Rattle.ssi_run.proofs.program.ssi_program.Goals as goal

-- the one command
run_is : (command : Command) → command ≡ Run
run_is Run = refl

pub returns-in-None-clause-ended : goal.returns-in-None-clause-ended
returns-in-None-clause-ended g c =
    let none : command_of (texts c.args.words.now) ≡ None = sym c.read_words.ensures ∙ c.in-None.is in
    let number = c.end_number.ensures ∙ ap number_after c.told.ensures in
    rw (none, number) (ended_usage _ refl c.write_all.result c.write_all.ensures.written refl)

pub returns-in-None-clause-nothing : goal.returns-in-None-clause-nothing
returns-in-None-clause-nothing g c = λ h. absurd (not_told c.write_all.result NoShape c.end_number.result (c.end_number.ensures ∙ ap number_after c.told.ensures) h)

pub returns-in-Some-Run-clause-ended : goal.returns-in-Some-Run-clause-ended
returns-in-Some-Run-clause-ended g c =
    let run : command_of (texts c.args.words.now) ≡ Some Run = sym c.read_words.ensures ∙ c.in-Some-Run.is ∙ ap Some (run_is _) in
    rw (run, c.end_number-in-Some-Run.ensures) c.run.ensures.ended

pub returns-in-Some-Run-clause-unread : goal.returns-in-Some-Run-clause-unread
returns-in-Some-Run-clause-unread g c =
    let run : command_of (texts c.args.words.now) ≡ Some Run = sym c.read_words.ensures ∙ c.in-Some-Run.is ∙ ap Some (run_is _) in
    λ h. absurd (h (rw run tt))

pub returns-in-Some-Run-clause-nothing : goal.returns-in-Some-Run-clause-nothing
returns-in-Some-Run-clause-nothing g c = λ h. c.run.ensures.nothing (source_or_memory c.run.result c.end_number-in-Some-Run.result c.end_number-in-Some-Run.ensures h)
