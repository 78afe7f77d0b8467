-- A session of an interlocking with its modules, and what steps of a script make of it.
use Rattle.std.specs.Prelude.{ℕ, zero, suc, ◌+◌, List, [], ◌∷◌, replicate, slice_index_or, slice_set, Option, Some, None}
use Rattle.ssi_identities.specs.DataSets.{Plan, ModulePlan}
use Rattle.ssi_cycle.specs.Cores.{Core, core_of, after_event_on}
use Rattle.ssi_cycle.specs.Exchanges.{module_in}
use Rattle.ssi_cycle.specs.Outputs.{output_byte}
use Rattle.ssi_cycle.specs.Worlds.Event.{Put, Minor}
use Rattle.ssi_telegrams.specs.Telegram.{command_telegram_of}
use Rattle.ssi_trackside.specs.declared.events.Event.{Event}
use Rattle.ssi_trackside.specs.Module.{ModuleState, after_event}
use Rattle.ssi_trackside.specs.Shelf.{module_at, place_of}
use Rattle.ssi_script.specs.declared.step.Mark.{Mark}
use Rattle.ssi_script.specs.declared.step.Mark.TheVariants as mark
use Rattle.ssi_script.specs.declared.step.ScriptStep.{ScriptStep}
use Rattle.ssi_script.specs.declared.step.ScriptStep.TheVariants.{Panel, Cycle, Happen, Raw, Lose, Drop}
use Rattle.ssi_script.specs.Telegrams.{commanded, arrives}

-- the interlocking; its modules, as a shelf of all that there may be; the mark of each address, if it has one; and the number of the next minor cycle
pub record Session : Type 0 where
  pub core : Core
  pub shelf : List ModuleState
  pub marks : List (Option Mark)
  pub number : ℕ

-- a session at its start, with these modules: no address has a mark
abbrev pub session_of : Plan → List ModuleState → Session
session_of plan shelf = record { core = core_of plan; shelf = shelf; marks = replicate 64 None; number = 0 }

-- the mark of an address
abbrev pub mark_of : List (Option Mark) → ℕ → Option Mark
mark_of marks address = slice_index_or marks address None

-- an exchange: the telegram that went out and what arrived, and the shelf and the marks after it
pub record Exchange : Type 0 where
  pub out : Option (List ℕ)
  pub arrived : Option (List ℕ)
  pub shelf : List ModuleState
  pub marks : List (Option Mark)

-- the exchange of a slot: with the module that has the slot's number for its address, which takes the command and reports, as the address's mark lets it; the mark
-- is used up. A slot without a module has none.
abbrev pub exchange_with : Plan → Session → Option ModulePlan → Exchange
exchange_with plan session None = record { out = None; arrived = None; shelf = session.shelf; marks = session.marks }
exchange_with plan session (Some row) =
    let address = session.core.world.slot in
    let mark = mark_of session.marks address in
    let value = output_byte plan session.core.world.state row in
    let place = place_of address row.kind in
    let m = commanded mark (module_at session.shelf place) value in
    record {
      out = Some (command_telegram_of address value);
      arrived = arrives mark address m;
      shelf = slice_set session.shelf place m;
      marks = slice_set session.marks address None;
    }

abbrev pub exchange_of : Session → Exchange
exchange_of session = exchange_with session.core.plan session (module_in session.core.plan session.core.world.slot)

-- after a minor cycle, which takes in what arrived in the exchange of its slot
abbrev pub after_cycle : Session → Session
after_cycle session =
    let exchange = exchange_of session in
    record {
      core = after_event_on session.core (Minor exchange.arrived);
      shelf = exchange.shelf;
      marks = exchange.marks;
      number = session.number + 1;
    }

-- after minor cycles, one after another
abbrev pub after_cycles : ℕ → Session → Session
after_cycles zero session = session
after_cycles (suc count) session = after_cycles count (after_cycle session)

-- with another mark of an address, in the place of the one that it had
abbrev pub marked : Session → ℕ → Mark → Session
marked session address mark = record session { marks = slice_set session.marks address (Some mark) }

-- after what happens to the module with an address and a kind
abbrev pub happened : Session → ℕ → ℕ → Event → Session
happened session address kind event =
    let place = place_of address kind in
    record session { shelf = slice_set session.shelf place (after_event (module_at session.shelf place) event) }

-- after a step
abbrev pub after_step : ScriptStep → Session → Session
after_step (Panel panel request) session = record session { core = after_event_on session.core (Put request) }
after_step (Cycle count) session = after_cycles count session
after_step (Happen address kind event) session = happened session address kind event
after_step (Raw address bytes) session = marked session address (mark.Raw bytes)
after_step (Lose address) session = marked session address mark.Lose
after_step (Drop address) session = marked session address mark.Drop

-- after steps, one after another
abbrev pub after_steps : List ScriptStep → Session → Session
after_steps [] session = session
after_steps (step ∷ steps) session = after_steps steps (after_step step session)
