-- The steps of a session that are left, from one on.
use Rattle.std.proofs.Common.{◌≡◌, ℕ, zero, suc, ◌+◌, ◌<◌, List, [], ◌∷◌, ◌++◌, length, drop, get_or, replicate, Option, None, refl, ap, ◌∙◌, add-one}
use Rattle.std.proofs.Math.Seq.{drop-cons}
use Rattle.ssi_base.specs.Faults.{Faults}
use Rattle.ssi_identities.specs.DataSets.{Plan}
use Rattle.ssi_trackside.specs.Module.{ModuleState}
use Rattle.ssi_cycle.specs.Cores.{Core, core_of}
use Rattle.ssi_script.specs.declared.step.Mark.{Mark}
use Rattle.ssi_script.specs.declared.step.ScriptStep.{ScriptStep}
use Rattle.ssi_script.specs.declared.step.ScriptStep.TheVariants.{Panel, Cycle, Happen, Raw, Lose, Drop}
use Rattle.ssi_script.specs.Meanings.{cycles_of, cycles_in}
use Rattle.ssi_script.specs.Sessions.{Session, after_cycle, after_cycles, after_step, after_steps, session_of}
use Rattle.ssi_script.specs.Traces.{cycle_pieces, step_pieces, steps_pieces}
use Rattle.ssi_run.specs.Courses.{session_at}
use Rattle.ssi_run.specs.Stops.{left_by}
use Rattle.ssi_run.proofs.Pieces.{PiecesLeft, all_pieces_left, left-append}

module _ (steps : List ScriptStep) (i : ℕ) (d : ScriptStep) (within : i < length steps) where
  -- what the steps from one on write: the pieces of this one, and those of the steps after it
  pub pieces_from : (session : Session) → steps_pieces (drop i steps) session
      ≡ step_pieces (get_or steps i d) session ++ steps_pieces (drop (i + 1) steps) (after_step (get_or steps i d) session)
  pieces_from session = rw (add-one, drop-cons steps i d) refl

  pub cycles_from : cycles_in (drop i steps) ≡ cycles_of (get_or steps i d) + cycles_in (drop (i + 1) steps)
  cycles_from = rw (add-one, drop-cons steps i d) refl

-- all of them are left at the start of a session
pub all_steps_left : (old : Option (List ℕ)) (faults : Faults) (shelf : List ModuleState) (steps : List ScriptStep) (plan : Plan) (core : Core) (marks : List (Option Mark))
    → core ≡ core_of plan → marks ≡ replicate 64 None → PiecesLeft old old faults faults shelf shelf (steps_pieces steps (session_of plan shelf)) (steps_pieces steps (session_at core shelf marks 0))
all_steps_left old faults shelf steps plan core marks begun none = rw (begun, none) (all_pieces_left old faults shelf (steps_pieces steps (session_of plan shelf)))

-- ---- the modules behind pieces are those that the steps leave

left_by_cycles : (count : ℕ) (session : Session) → left_by session.shelf (cycle_pieces count session) ≡ (after_cycles count session).shelf
left_by_cycles zero session = refl
left_by_cycles (suc count) session = left_by_cycles count (after_cycle session)

left_by_step : (step : ScriptStep) (session : Session) → left_by session.shelf (step_pieces step session) ≡ (after_step step session).shelf
left_by_step (Panel panel request) session = refl
left_by_step (Cycle count) session = left_by_cycles count session
left_by_step (Happen address kind event) session = refl
left_by_step (Raw address bytes) session = refl
left_by_step (Lose address) session = refl
left_by_step (Drop address) session = refl

pub left_by_steps : (steps : List ScriptStep) (session : Session) → left_by session.shelf (steps_pieces steps session) ≡ (after_steps steps session).shelf
left_by_steps [] session = refl
left_by_steps (step ∷ steps) session =
    let next = after_step step session in
    left-append session.shelf (step_pieces step session) (steps_pieces steps next)
    ∙ ap (λ shelf. left_by shelf (steps_pieces steps next)) (left_by_step step session)
    ∙ left_by_steps steps next
