-- What the ways to end come to, number by number.
use Rattle.std.specs.Prelude.{◌≡◌, ◌≢◌, ℕ, Option}
use Rattle.std.specs.Io.KnownBytes.{Appends}
use Rattle.ssi_script.specs.Traces.{text_of}
use Rattle.ssi_run.specs.declared.status.Failure.TheVariants.{Source, Sink, Memory}
use Rattle.ssi_run.specs.declared.words.Command.{Command}
use Rattle.ssi_run.specs.Answers.{Answer}
use Rattle.ssi_run.specs.Endings.{Seen, IsAnswerTo}
use Rattle.ssi_run.specs.Statuses.{number_of, failure_number}
use Rattle.ssi_run.specs.Stops.{StopsIn}

-- the number is that of an answer, and tells of no failure
pub record IsAnswered (number : ℕ) : Type 0 where
  pub read : number ≢ failure_number Source
  pub written : number ≢ failure_number Sink
  pub memory : number ≢ failure_number Memory

-- the number is that of the answer's status, all of the answer was written, and the modules are as it leaves them
pub record GivesAnswer (command : Option Command) (seen : Seen) (number : ℕ) : Type 0 where
  pub answer : Answer
  pub is_answer : IsAnswerTo command seen answer
  pub status : number ≡ number_of answer.status
  pub appended : Appends seen.sink.written_before seen.sink.written_after (text_of answer.pieces)
  pub left : seen.shelf_after ≡ answer.left

-- of the answer a part was written, and not the whole
pub record GivesPart (command : Option Command) (seen : Seen) : Type 0 where
  pub answer : Answer
  pub is_answer : IsAnswerTo command seen answer
  pub part : StopsIn answer.pieces seen.sink.written_before seen.sink.written_after seen.shelf_after
