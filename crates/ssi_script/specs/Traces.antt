-- The trace: what a session writes, piece by piece.
use Rattle.std.specs.Prelude.{ℕ, zero, suc, if◌then◌else◌, List, [], ◌∷◌, ◌++◌}
use Rattle.ssi_cycle.specs.Requests.{is_full}
use Rattle.ssi_cycle.specs.Worlds.{taken_in}
use Rattle.ssi_trackside.specs.Module.{ModuleState}
use Rattle.ssi_script.specs.declared.step.ScriptStep.{ScriptStep}
use Rattle.ssi_script.specs.declared.step.ScriptStep.TheVariants.{Panel, Cycle, Happen, Raw, Lose, Drop}
use Rattle.ssi_script.specs.Lines.{line_of, full_line}
use Rattle.ssi_script.specs.Sessions.{Session, exchange_of, after_cycle, after_step}

-- the line of the minor cycle that a session comes to
abbrev pub cycle_text : Session → List ℕ
cycle_text session =
    let exchange = exchange_of session in
    line_of session.number exchange.out exchange.arrived (taken_in session.core.plan session.core.world) (after_cycle session).core

-- a put that finds 64 requests waiting gives a line
abbrev pub put_text : ℕ → ℕ → Session → List ℕ
put_text panel request session = if is_full session.core.world.waiting then full_line session.core.plan panel request else []

-- a piece of what is written, and what stands when it is written: what gives the piece has been done before
pub record Piece (S : Type 0) : Type 0 where
  pub text : List ℕ
  pub standing : S

-- a piece with the modules as they stand when it is written
abbrev pub ShelfPiece : Type 0
ShelfPiece = Piece (List ModuleState)

-- the text of pieces, one after another
abbrev pub text_of : {S : Type 0} → List (Piece S) → List ℕ
text_of [] = []
text_of (piece ∷ pieces) = piece.text ++ text_of pieces

-- the pieces of minor cycles: each has its line
abbrev pub cycle_pieces : ℕ → Session → List ShelfPiece
cycle_pieces zero session = []
cycle_pieces (suc count) session =
    let next = after_cycle session in
    record { text = cycle_text session; standing = next.shelf } ∷ cycle_pieces count next

-- a step that isn't minor cycles is one piece
abbrev pub one_piece : List ℕ → Session → List ShelfPiece
one_piece text session = record { text = text; standing = session.shelf } ∷ []

-- the pieces of a step
abbrev pub step_pieces : ScriptStep → Session → List ShelfPiece
step_pieces (Panel panel request) session = one_piece (put_text panel request session) session
step_pieces (Cycle count) session = cycle_pieces count session
step_pieces (Happen address kind event) session = one_piece [] (after_step (Happen address kind event) session)
step_pieces (Raw address bytes) session = one_piece [] session
step_pieces (Lose address) session = one_piece [] session
step_pieces (Drop address) session = one_piece [] session

-- the pieces of steps, one after another
abbrev pub steps_pieces : List ScriptStep → Session → List ShelfPiece
steps_pieces [] session = []
steps_pieces (step ∷ steps) session = step_pieces step session ++ steps_pieces steps (after_step step session)
