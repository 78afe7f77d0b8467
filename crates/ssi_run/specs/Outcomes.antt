-- How the functions below the top call tell what they answered: the whole, a part, or nothing.
use Rattle.std.specs.Prelude.{◌≡◌, ℕ, List, Option, Result, Ok, Err}
use Rattle.std.specs.Io.KnownBytes.{Appends}
use Rattle.ssi_base.specs.declared.outside.Failed.{Failed}
use Rattle.ssi_base.specs.Faults.{Faults, GoesOn, Rose}
use Rattle.ssi_script.specs.Traces.{text_of}
use Rattle.ssi_trackside.specs.Module.{ModuleState}
use Rattle.ssi_run.specs.declared.status.Status.{Status}
use Rattle.ssi_run.specs.declared.status.Failure.{Failure}
use Rattle.ssi_run.specs.declared.status.Failure.TheVariants.{Source, Sink, Memory}
use Rattle.ssi_run.specs.Answers.{Answer}
use Rattle.ssi_run.specs.Stops.{StopsIn}

-- some such answer was written, and the modules are as it leaves them
pub record GivesWhole (IsSuch : Answer → Type 0) (old new : Option (List ℕ)) (left : List ModuleState) (status : Status) : Type 0 where
  pub answer : Answer
  pub is_such : IsSuch answer
  pub status_is : status ≡ answer.status
  pub appended : Appends old new (text_of answer.pieces)
  pub left_is : left ≡ answer.left

-- some such answer stopped in one of its pieces, since writing failed
pub record GivesPart (IsSuch : Answer → Type 0) (old new : Option (List ℕ)) (before now : Faults) (left : List ModuleState) : Type 0 where
  pub answer : Answer
  pub is_such : IsSuch answer
  pub stops : StopsIn answer.pieces old new left
  pub failed : Rose before now

-- nothing was written, and nothing was done
pub record GivesNothing (old new : Option (List ℕ)) (shelf left : List ModuleState) : Type 0 where
  pub written : new ≡ old
  pub modules : left ≡ shelf

-- what became of such an answer; reading is over
abbrev pub Gives : (Answer → Type 0) → Option (List ℕ) → Option (List ℕ) → Faults → Faults → List ModuleState → List ModuleState → Result Status Failure → Type 0
Gives IsSuch old new before now shelf left (Ok status) = GivesWhole IsSuch old new left status
Gives IsSuch old new before now shelf left (Err Source) = ⊥
Gives IsSuch old new before now shelf left (Err Sink) = GivesPart IsSuch old new before now left
Gives IsSuch old new before now shelf left (Err Memory) = GivesNothing old new shelf left

-- what became of such an answer, with the count of failures going on
pub record Replies (IsSuch : Answer → Type 0) (old new : Option (List ℕ)) (before now : Faults) (shelf left : List ModuleState) (result : Result Status Failure) : Type 0 where
  pub gives : Gives IsSuch old new before now shelf left result
  pub goes_on : GoesOn before now

-- the status of what was written; where the sink failed, that it did
abbrev pub told_of : Result (Unit {0}) Failed → Status → Result Status Failure
told_of (Ok written) status = Ok status
told_of (Err failed) status = Err Sink
