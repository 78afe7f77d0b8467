-- A minor cycle of a session, and those that are left of some.
use Rattle.std.proofs.Common.{◌≡◌, ℕ, suc, ◌+◌, ◌-◌, ◌<◌, List, [], ◌∷◌, ◌++◌, Option, Result, IsErr, Continue, refl, ap, sym, ◌∙◌, arith}
use Rattle.std.specs.Result.{result_from_control_flow}
use Rattle.ssi_base.specs.Faults.{Faults}
use Rattle.ssi_base.specs.Streams.{Writes}
use Rattle.ssi_cycle.specs.Cores.{Core, after_event_on}
use Rattle.ssi_cycle.specs.Worlds.{taken_in}
use Rattle.ssi_cycle.specs.Worlds.Event.{Minor}
use Rattle.ssi_script.specs.Lines.{line_of}
use Rattle.ssi_script.specs.Sessions.{Session, Exchange, exchange_of, after_cycle, after_cycles}
use Rattle.ssi_script.specs.Traces.{ShelfPiece, cycle_pieces, cycle_text}
use Rattle.ssi_run.specs.Courses.{session_at}
use Rattle.ssi_run.specs.Stops.{WritesPieces}
use Rattle.ssi_run.proofs.Pieces.{PiecesLeft, fewer_pieces_left, one_written, passed_past, pieces_stop}

-- the session after an exchange and its minor cycle
abbrev with_exchange : Session → Exchange → Session
with_exchange session exchange =
    record { core = after_event_on session.core (Minor exchange.arrived); shelf = exchange.shelf; marks = exchange.marks; number = session.number + 1 }

-- its line
abbrev line_with : Session → Exchange → List ℕ
line_with session exchange =
    line_of session.number exchange.out exchange.arrived (taken_in session.core.plan session.core.world) (with_exchange session exchange).core

module _ (session : Session) (exchange : Exchange) (core : Core) (passed : exchange ≡ exchange_of session) (made : core ≡ after_event_on session.core (Minor exchange.arrived)) where
  pub cycle_made : session_at core exchange.shelf exchange.marks (session.number + 1) ≡ after_cycle session
  cycle_made = ap (λ (core : Core). session_at core exchange.shelf exchange.marks (session.number + 1)) made ∙ ap (with_exchange session) passed

  pub line_made : (taken : Option (ℕ × ℕ)) → taken ≡ taken_in session.core.plan session.core.world
      → line_of session.number exchange.out exchange.arrived taken core ≡ cycle_text session
  line_made taken is =
      ap (λ (taken : Option (ℕ × ℕ)). line_of session.number exchange.out exchange.arrived taken core) is
      ∙ ap (λ (core : Core). line_of session.number exchange.out exchange.arrived (taken_in session.core.plan session.core.world) core) made
      ∙ ap (line_with session) passed

-- a session on its way: so many of its minor cycles are left
pub record CyclesLeft (old now : Option (List ℕ)) (before after : Faults) (start session : Session) (count left : ℕ) : Type 0 where
  pub pieces : PiecesLeft old now before after start.shelf session.shelf (cycle_pieces count start) (cycle_pieces left session)
  pub ends : after_cycles left session ≡ after_cycles count start

module _ (session next : Session) (count turn : ℕ) (within : turn < count) (made : next ≡ after_cycle session) where
  one_more : count - turn ≡ suc (count - (turn + 1))
  one_more = omega arith

  -- the piece of the next minor cycle
  abbrev piece : ShelfPiece
  piece = record { text = cycle_text session; standing = next.shelf }

  pieces_next : cycle_pieces (count - turn) session ≡ (piece ∷ []) ++ cycle_pieces (count - (turn + 1)) next
  pieces_next = rw (one_more, made) refl

  ends_next : after_cycles (count - turn) session ≡ after_cycles (count - (turn + 1)) next
  ends_next = rw (one_more, made) refl

  -- it was made, and its line was written
  pub cycle_done : {T E : Type 0} {old mid new : Option (List ℕ)} {a b c : Faults} {start : Session} {result : Result T E} {flow : _} {value : T}
      → CyclesLeft old mid a b start session count (count - turn) → flow ≡ Continue value → result ≡ result_from_control_flow flow
      → Writes mid new b c (cycle_text session) result → CyclesLeft old new a c start next count (count - (turn + 1))
  cycle_done left was is one = record {
    pieces = fewer_pieces_left (rw pieces_next at left.pieces) (passed_past was is (one_written session.shelf next.shelf one));
    ends = sym ends_next ∙ left.ends;
  }

  -- it was made, and its line failed
  pub cycle_stopped : {T U E F : Type 0} {old mid new : Option (List ℕ)} {a b c : Faults} {start : Session} {first : Result T E} {second : Result U F}
      → CyclesLeft old mid a b start session count (count - turn) → IsErr first → IsErr second → Writes mid new b c (cycle_text session) first
      → WritesPieces (cycle_pieces count start) old new a c start.shelf next.shelf second
  cycle_stopped left failed told one = pieces_stop _ (rw pieces_next at left.pieces) failed told (one_written session.shelf next.shelf one)
