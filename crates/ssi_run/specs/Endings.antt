-- How the program ends: what it has read, written and left of the modules, as it is seen from outside.
use Rattle.std.specs.Prelude.{◌≡◌, ℕ, List, Option}
use Rattle.std.specs.Option.{IfSome}
use Rattle.std.specs.Io.KnownBytes.{Appends, IsAtEnd}
use Rattle.ssi_base.specs.Faults.{Faults, Rose}
use Rattle.ssi_base.specs.Streams.{GivesPast, GivesWithin}
use Rattle.ssi_script.specs.Traces.{text_of}
use Rattle.ssi_trackside.specs.Module.{ModuleState}
use Rattle.ssi_run.specs.declared.status.Failure.TheVariants.{Source, Sink, Memory}
use Rattle.ssi_run.specs.declared.words.Command.{Command}
use Rattle.ssi_run.specs.Answers.{Answer, Answers, Reading, Unread, ToEnd, TooMuch, Reads}
use Rattle.ssi_run.specs.Statuses.{number_of, failure_number, input_limit}
use Rattle.ssi_run.specs.Stops.{StopsIn}

-- a source before and after a call: the bytes that it has left, where it tells them, and how often it has failed
pub record SourceSeen : Type 0 where
  pub left_before : Option (List ℕ)
  pub left_after : Option (List ℕ)
  pub faults_before : Faults
  pub faults_after : Faults

-- a sink before and after a call: the bytes that it was given, where it tells them, and how often it has failed
pub record SinkSeen : Type 0 where
  pub written_before : Option (List ℕ)
  pub written_after : Option (List ℕ)
  pub faults_before : Faults
  pub faults_after : Faults

-- a call as it is seen from outside
pub record Seen : Type 0 where
  pub source : SourceSeen
  pub sink : SinkSeen
  pub shelf_before : List ModuleState
  pub shelf_after : List ModuleState

-- the source failed in the call, the sink did, nothing was written
abbrev pub SourceFailed : Seen → Type 0
SourceFailed seen = Rose seen.source.faults_before seen.source.faults_after

abbrev pub SinkFailed : Seen → Type 0
SinkFailed seen = Rose seen.sink.faults_before seen.sink.faults_after

abbrev pub WroteNothing : Seen → Type 0
WroteNothing seen = seen.sink.written_after ≡ seen.sink.written_before

-- no byte past the limit was read
abbrev pub ReadWithin : Seen → Type 0
ReadWithin seen = GivesWithin seen.source.left_before seen.source.left_after input_limit

-- the modules are as they were
abbrev pub LeftModules : Seen → Type 0
LeftModules seen = seen.shelf_after ≡ seen.shelf_before

-- so much of the source was read
abbrev pub HasRead : Reading → Seen → Type 0
HasRead Unread seen = seen.source.left_after ≡ seen.source.left_before
HasRead ToEnd seen = ReadWithin seen × IsAtEnd seen.source.left_after
HasRead TooMuch seen = GivesPast seen.source.left_before seen.source.left_after input_limit

-- the source may have had this input
abbrev pub IsInputOf : Seen → List ℕ → Type 0
IsInputOf seen input = IfSome seen.source.left_before (λ all. input ≡ all)

-- It is the answer to some input that the source may have had, and so much was read as it takes.
pub record IsAnswerTo (command : Option Command) (seen : Seen) (answer : Answer) : Type 0 where
  pub input : List ℕ
  pub is_input : IsInputOf seen input
  pub is_answer : Answers command input seen.shelf_before answer
  pub has_read : HasRead answer.reading seen

-- The ways to end, each with its number.
pub data Ends (command : Option Command) (seen : Seen) : ℕ → Type 0 where
  -- the whole answer was written, and the modules are as it leaves them
  whole : (answer : Answer) → IsAnswerTo command seen answer → Appends seen.sink.written_before seen.sink.written_after (text_of answer.pieces)
      → seen.shelf_after ≡ answer.left → Ends command seen (number_of answer.status)
  -- writing failed in one of its pieces
  part : (answer : Answer) → IsAnswerTo command seen answer → StopsIn answer.pieces seen.sink.written_before seen.sink.written_after seen.shelf_after
      → SinkFailed seen → Ends command seen (failure_number Sink)
  -- reading failed, and nothing was done
  unread : Reads command → SourceFailed seen → ReadWithin seen → WroteNothing seen → LeftModules seen → Ends command seen (failure_number Source)
  -- memory ran out, and nothing was done
  starved : Reads command → ReadWithin seen → WroteNothing seen → LeftModules seen → Ends command seen (failure_number Memory)
