-- What is seen of an interlocking.
use Rattle.ssi_identities.specs.DataSets.{Plan}
use Rattle.ssi_identities.specs.States.{State}
use Rattle.ssi_cycle.specs.Worlds.{World, Event, after_event, start_of}
use Rattle.ssi_cycle.specs.Worlds.Event.{Put, Minor}

-- the data set, the world, and the state before the last minor cycle, or at the start where there was none
pub record Core : Type 0 where
  pub plan : Plan
  pub world : World
  pub before : State

-- an interlocking at its start
abbrev pub core_of : Plan → Core
core_of plan = let world = start_of plan in record { plan = plan; world = world; before = world.state }

-- the state before the last minor cycle, after an event: a put is none
abbrev pub before_after : Core → Event → State
before_after core (Put request) = core.before
before_after core (Minor arrived) = core.world.state

-- the interlocking after an event
abbrev pub after_event_on : Core → Event → Core
after_event_on core event = record core { world = after_event core.plan core.world event; before = before_after core event }
