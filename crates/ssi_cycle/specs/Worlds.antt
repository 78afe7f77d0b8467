-- The world of an interlocking, and what an event makes of it.
use Rattle.std.specs.Prelude.{ℕ, ◌+◌, ◌%◌, List, [], ◌∷◌, ◌++◌, drop, Option}
use Rattle.ssi_identities.specs.DataSets.{Plan, counts_of}
use Rattle.ssi_identities.specs.States.{State, start_of as start_state_of}
use Rattle.ssi_cycle.specs.Deeds.{Deed, after_deeds}
use Rattle.ssi_cycle.specs.Exchanges.{Arrival, deeds_of_arrival}
use Rattle.ssi_cycle.specs.Statements.{deeds_of_statements}
use Rattle.ssi_cycle.specs.Requests.{deeds_of_request, taken_of, with_request}

-- a state; the requests that wait on panel 0, the oldest first; and the slot that comes next, 0 to 63
pub record World : Type 0 where
  pub state : State
  pub waiting : List ℕ
  pub slot : ℕ

-- the world at the start: its state is that at the start, no request waits, and slot 0 comes next
abbrev pub start_of : Plan → World
start_of plan = record { state = start_state_of (counts_of plan); waiting = []; slot = 0 }

-- the request that the minor cycle from a world on takes: its panel and its number
abbrev pub taken_in : Plan → World → Option (ℕ × ℕ)
taken_in plan world = taken_of world.waiting

-- what acts in a minor cycle, in this order: what has arrived is taken in, the statements of the slot act, then at most one request does
abbrev pub deeds_of : Plan → World → Arrival → List Deed
deeds_of plan world arrived = deeds_of_arrival plan world.slot arrived ++ deeds_of_statements plan world.slot ++ deeds_of_request plan (taken_in plan world)

-- one minor cycle: its deeds are done, the request that is taken waits no more, and the next slot comes
abbrev pub minor_cycle_of : Plan → World → Arrival → World
minor_cycle_of plan world arrived = record world {
  state = after_deeds plan world.state (deeds_of plan world arrived);
  waiting = drop 1 world.waiting;
  slot = (world.slot + 1) % 64;
}

-- what happens to an interlocking: a request is put on panel 0, or a minor cycle is made with what arrives in its slot
pub data Event : Type 0 where
  Put : ℕ → Event
  Minor : Arrival → Event

-- the world after an event
abbrev pub after_event : Plan → World → Event → World
after_event plan world (Put request) = record world { waiting = with_request world.waiting request }
after_event plan world (Minor arrived) = minor_cycle_of plan world arrived

-- the deeds of an event: a put does nothing to a state
abbrev pub deeds_of_event : Plan → World → Event → List Deed
deeds_of_event plan world (Put request) = []
deeds_of_event plan world (Minor arrived) = deeds_of plan world arrived

-- the world after events, one after another
abbrev pub after_events : Plan → World → List Event → World
after_events plan world [] = world
after_events plan world (event ∷ events) = after_events plan (after_event plan world event) events

-- the world after a list of events from the start
abbrev pub after : Plan → List Event → World
after plan events = after_events plan (start_of plan) events
