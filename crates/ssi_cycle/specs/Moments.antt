-- The moments of a list of events: the start, and the states before and after each change.
use Rattle.std.specs.Prelude.{◌≡◌, ⊤, List, [], ◌∷◌, ◌++◌, map}
use Rattle.std.specs.List.{flat_map}
use Rattle.ssi_identities.specs.DataSets.{Plan}
use Rattle.ssi_identities.specs.States.{State}
use Rattle.ssi_identities.specs.Steps.{Step, steps_of}
use Rattle.ssi_cycle.specs.Deeds.{Deed, after_deed}
use Rattle.ssi_cycle.specs.Deeds.Deed.{Acts, Restricts}
use Rattle.ssi_cycle.specs.Worlds.{World, Event, after_event, deeds_of_event, start_of}

-- what changes a state: a step of a body, or the restriction of all that is wired to a module, with the states before and after it
pub data Change : Type 0 where
  Stepped : Step → Change
  Restricted : State → State → Change

-- the state before a change
abbrev pub before_of : Change → State
before_of (Stepped step) = step.before
before_of (Restricted before after) = before

-- the state after a change
abbrev pub after_of : Change → State
after_of (Stepped step) = step.after
after_of (Restricted before after) = after

-- the state after the last of some changes; the one before them where there is none
abbrev pub after_changes : State → List Change → State
after_changes state [] = state
after_changes state (change ∷ changes) = after_changes (after_of change) changes

-- each change begins in the state that the one before it has left, the first of them in this one
abbrev pub IsChain : State → List Change → Type 0
IsChain state [] = ⊤
IsChain state (change ∷ changes) = (before_of change ≡ state) × IsChain (after_of change) changes

-- the changes that a deed makes: the steps of the body that acts, or the restriction, which is one
abbrev pub changes_of_deed : Plan → State → Deed → List Change
changes_of_deed plan state (Acts body report) = map Stepped (steps_of plan body state report)
changes_of_deed plan state (Restricts row) = Restricted state (after_deed plan state (Restricts row)) ∷ []

-- those of deeds, one after another
abbrev pub changes_of_deeds : Plan → State → List Deed → List Change
changes_of_deeds plan state [] = []
changes_of_deeds plan state (deed ∷ deeds) = changes_of_deed plan state deed ++ changes_of_deeds plan (after_deed plan state deed) deeds

-- those of events, one after another
abbrev pub changes_of_events : Plan → World → List Event → List Change
changes_of_events plan world [] = []
changes_of_events plan world (event ∷ events) = changes_of_deeds plan world.state (deeds_of_event plan world event) ++ changes_of_events plan (after_event plan world event) events

-- the states before and after each of some changes
abbrev pub states_around : List Change → List State
states_around changes = flat_map (λ change. before_of change ∷ after_of change ∷ []) changes

-- the moments of a list of events from the start
abbrev pub moments_of : Plan → List Event → List State
moments_of plan events = let world = start_of plan in world.state ∷ states_around (changes_of_events plan world events)
