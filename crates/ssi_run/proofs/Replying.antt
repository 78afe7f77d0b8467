-- Answers that were written whole or in part.
use Rattle.std.proofs.Common.{◌≡◌, ℕ, List, [], ◌∷◌, ◌++◌, Option, Some, None, Continue, Result, Ok, Err, IsErr, refl, subst, ◌∙◌, arith}
use Rattle.std.specs.Result.{IsErrAnd, result_from_control_flow}
use Rattle.ssi_base.specs.declared.outside.Failed.{Failed}
use Rattle.ssi_base.specs.Faults.{Faults}
use Rattle.ssi_base.specs.Streams.{Writes}
use Rattle.ssi_trackside.specs.Module.{ModuleState}
use Rattle.ssi_script.specs.declared.step.ScriptFault.{ScriptFault}
use Rattle.ssi_script.specs.declared.step.ScriptStep.{ScriptStep}
use Rattle.ssi_script.specs.Sessions.{Session, after_steps}
use Rattle.ssi_script.specs.Traces.{steps_pieces}
use Rattle.ssi_run.specs.declared.status.Status.{Status}
use Rattle.ssi_run.specs.declared.status.Status.TheVariants.{Done, BadScript}
use Rattle.ssi_run.specs.declared.status.Failure.{Failure}
use Rattle.ssi_run.specs.declared.status.Failure.TheVariants.{Source, Sink, Memory}
use Rattle.ssi_run.specs.FaultLines.{script_fault_line}
use Rattle.ssi_run.specs.Stops.{left_by, WritesPieces}
use Rattle.ssi_run.specs.Answers.{Answer, Reading, alone, script_answer}
use Rattle.ssi_run.specs.Outcomes.{Gives, Replies, told_of}
use Rattle.ssi_run.proofs.LastLine.{left_behind, piece_of, stops_before, writes_alone, writes_last}
use Rattle.ssi_run.proofs.StepsLeft.{left_by_steps}

module _ (IsSuch : Answer → Type 0) {old new : Option (List ℕ)} {a b : Faults} {shelf left : List ModuleState} where
  -- what is told of an answer whose pieces were to be written
  pub replies : (answer : Answer) → IsSuch answer → left_by shelf answer.pieces ≡ answer.left → (written : Result (Unit {0}) Failed) → WritesPieces answer.pieces old new a b shelf left written
      → Replies IsSuch old new a b shelf left (told_of written answer.status)
  replies answer such ends (Ok x) w = record {
    gives = record { answer = answer; is_such = such; status_is = refl; appended = w.whole.appended; left_is = w.whole.done ∙ ends };
    goes_on = w.cause.goes_on;
  }
  replies answer such ends (Err failed) w = record {
    gives = record { answer = answer; is_such = such; stops = w.part; failed = w.cause.failed };
    goes_on = w.cause.goes_on;
  }

module _ (IsSuch IsToo : Answer → Type 0) (f : (x : Answer) → IsSuch x → IsToo x) where
  gives_too : (old new : Option (List ℕ)) (a b : Faults) (shelf left : List ModuleState) (result : Result Status Failure) → Gives IsSuch old new a b shelf left result → Gives IsToo old new a b shelf left result
  gives_too old new a b shelf left (Ok status) g = record { answer = g.answer; is_such = f g.answer g.is_such; status_is = g.status_is; appended = g.appended; left_is = g.left_is }
  gives_too old new a b shelf left (Err Source) g = absurd g
  gives_too old new a b shelf left (Err Sink) g = record { answer = g.answer; is_such = f g.answer g.is_such; stops = g.stops; failed = g.failed }
  gives_too old new a b shelf left (Err Memory) g = g

  -- an answer of one sort is one of another
  pub mapped : {old new : Option (List ℕ)} {a b : Faults} {shelf left : List ModuleState} (result : Result Status Failure) → Replies IsSuch old new a b shelf left result → Replies IsToo old new a b shelf left result
  mapped {old = old} {new = new} {a = a} {b = b} {shelf = shelf} {left = left} result r = record { gives = gives_too old new a b shelf left result r.gives; goes_on = r.goes_on }

-- a text that is the whole answer
pub replies_alone : (IsSuch : Answer → Type 0) {old new : Option (List ℕ)} {a b : Faults} (shelf : List ModuleState) (status : Status) (reading : Reading) (text : List ℕ) → IsSuch (alone shelf status reading text)
    → (written : Result (Unit {0}) Failed) → Writes old new a b text written → Replies IsSuch old new a b shelf shelf (told_of written status)
replies_alone IsSuch shelf status reading text such written w = replies IsSuch (alone shelf status reading text) such refl written (writes_alone shelf text written w)

-- nothing was written
pub replies_nothing : (IsSuch : Answer → Type 0) (old : Option (List ℕ)) (a : Faults) (shelf : List ModuleState) → Replies IsSuch old old a a shelf shelf (Err Memory)
replies_nothing IsSuch old a shelf = record { gives = record { written = refl; modules = refl }; goes_on = record { later = omega arith; most = refl } }

-- ---- the answer to a script

-- the answer to a script in a session
abbrev pub IsScriptAnswer : List ℕ → List ScriptStep → Option ScriptFault → Session → Answer → Type 0
IsScriptAnswer input steps fault session answer = answer ≡ script_answer input steps fault session

module _ (input : List ℕ) (steps : List ScriptStep) (session : Session) {old new : Option (List ℕ)} {a b : Faults} {left : List ModuleState} where
  -- its steps stopped
  pub replies_stopped : (fault : Option ScriptFault) {first : Result (Unit {0}) Failed} {result : Result Status Failure} → IsErr first → IsErrAnd result (λ failure. failure ≡ Sink) → WritesPieces (steps_pieces steps session) old new a b session.shelf left first
      → Replies (IsScriptAnswer input steps fault session) old new a b session.shelf left result
  replies_stopped fault {first = Ok x} failed told w = absurd cc
  replies_stopped fault {first = Err e} {result = Ok status} failed told w = absurd told
  replies_stopped None {first = Err e} {result = Err failure} failed told w = rw told (record {
    gives = record { answer = script_answer input steps None session; is_such = refl; stops = w.part; failed = w.cause.failed };
    goes_on = w.cause.goes_on;
  })
  replies_stopped (Some fault) {first = Err e} {result = Err failure} failed told w = rw told (record {
    gives = record { answer = script_answer input steps (Some fault) session; is_such = refl; stops = stops_before (steps_pieces steps session) _ w.part; failed = w.cause.failed };
    goes_on = w.cause.goes_on;
  })

  -- its steps are all of it
  pub replies_done : {first : Result (Unit {0}) Failed} {flow : _} {value : Unit {0}} → flow ≡ Continue value → first ≡ result_from_control_flow flow → WritesPieces (steps_pieces steps session) old new a b session.shelf left first
      → Replies (IsScriptAnswer input steps None session) old new a b session.shelf left (Ok Done)
  replies_done {first = Ok x} was is w = replies (IsScriptAnswer input steps None session) (script_answer input steps None session) refl (left_by_steps steps session) (Ok x) w
  replies_done {first = Err e} was is w = absurd cc

-- its fault is told behind its pieces
pub replies_bad : (input : List ℕ) (steps : List ScriptStep) (session : Session) {old mid new : Option (List ℕ)} {a b c : Faults} {left : List ModuleState} (fault : ScriptFault) {first : Result (Unit {0}) Failed} {flow : _} {value : Unit {0}}
    → flow ≡ Continue value → first ≡ result_from_control_flow flow → WritesPieces (steps_pieces steps session) old mid a b session.shelf left first
    → (written : Result (Unit {0}) Failed) → Writes mid new b c (script_fault_line input fault) written
    → Replies (IsScriptAnswer input steps (Some fault) session) old new a c session.shelf left (told_of written BadScript)
replies_bad input steps session {old = old} {new = new} {a = a} {c = c} {left = left} fault was is one written two =
    let pieces = steps_pieces steps session in
    let line = script_fault_line input fault in
    let all = subst (λ (standing : List ModuleState). WritesPieces (pieces ++ piece_of line standing ∷ []) old new a c session.shelf left written) (left_by_steps steps session)
    (writes_last pieces line was is one written two) in
    replies (IsScriptAnswer input steps (Some fault) session) (script_answer input steps (Some fault) session) refl
    (left_behind session.shelf pieces (piece_of line (after_steps steps session).shelf)) written all
