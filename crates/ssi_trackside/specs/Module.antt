-- A trackside module: its state, and what commands, reports and events make of it.
use Rattle.std.specs.Prelude.{ℕ, ◌+◌, ◌-◌, ◌*◌, ◌/◌, ◌%◌, ◌^◌, Bool, true, false, not, ◌&&◌, ◌||◌, ◌==◌, nat_lt, Option, Some, None, if◌then◌else◌, bit_and, bit_or}
use Rattle.ssi_trackside.specs.declared.events.Event.{Event}
use Rattle.ssi_trackside.specs.declared.events.Event.TheVariants.{Occupy, Clear, Fail, Mend, Jam, Unjam, Dead, Live}
use Rattle.ssi_trackside.specs.Kinds.{points_kind, signal_kind, track_kind}

-- the state of a module
pub record ModuleState : Type 0 where
  -- points_kind, signal_kind or track_kind
  pub kind : ℕ
  -- a dead module takes no commands and gives no reports
  pub dead : Bool
  -- by pin, a bit for each jammed machine, failed lamp or occupied input
  pub bits : ℕ
  -- of points, whether each machine lies reverse
  pub lie_a : Bool
  pub lie_b : Bool
  -- of points, how many more commands to its lie each machine needs before it is detected there
  pub wait_a : ℕ
  pub wait_b : ℕ

-- a module as it is made: alive, with no bit set, its machines detected normal
abbrev pub fresh : ℕ → ModuleState
fresh kind =
    record { kind = kind; dead = false; bits = 0; lie_a = false; lie_b = false; wait_a = 0; wait_b = 0 }

-- one machine of points: whether it lies reverse, its wait, and whether it is jammed
pub record MachineState : Type 0 where
  pub lie : Bool
  pub wait : ℕ
  pub jammed : Bool

-- a machine as it is made: detected normal
abbrev pub fresh_machine : MachineState
fresh_machine = record { lie = false; wait = 0; jammed = false }

-- whether a byte has the bit with a number
abbrev pub has_bit : ℕ → ℕ → Bool
has_bit byte number = byte / 2 ^ number % 2 == 1

-- a byte with the bit of a number set or reset
abbrev pub with_bit : ℕ → ℕ → Bool → ℕ
with_bit byte number true = bit_or byte (2 ^ number)
with_bit byte number false = bit_and byte (255 - 2 ^ number)

-- machine a of points, jammed by pin 0
abbrev pub machine_a : ModuleState → MachineState
machine_a m = record { lie = m.lie_a; wait = m.wait_a; jammed = has_bit m.bits 0 }

-- machine b of points, jammed by pin 1
abbrev pub machine_b : ModuleState → MachineState
machine_b m = record { lie = m.lie_b; wait = m.wait_b; jammed = has_bit m.bits 1 }

-- a machine that goes over to a lie, and waits there for three more commands
abbrev pub moved_to : Bool → MachineState → MachineState
moved_to lie machine = record machine { lie = lie; wait = 3 }

-- a machine that is driven to where it lies: a wait above 0 falls by one
abbrev pub kept_there : MachineState → MachineState
kept_there machine = record machine { wait = machine.wait - 1 }

-- a free machine after the two drive bits of a command, to normal and to reverse: it is driven
-- where exactly one of them is set
abbrev pub driven : Bool → Bool → MachineState → MachineState
driven true false machine = if machine.lie then moved_to false machine else kept_there machine
driven false true machine = if machine.lie then kept_there machine else moved_to true machine
driven true true machine = machine
driven false false machine = machine

-- a machine after the two drive bits of a command: a jammed one stays
abbrev pub after_drive : Bool → Bool → MachineState → MachineState
after_drive normal reverse machine =
    if machine.jammed then machine else driven normal reverse machine

-- a module after a command: live points drive machine a by bits 0 and 1, machine b by bits 2 and 3;
-- nothing else takes commands
abbrev pub after_command : ModuleState → ℕ → ModuleState
after_command m value =
    if m.dead || not (m.kind == points_kind)
    then m
    else let a = after_drive (has_bit value 0) (has_bit value 1) (machine_a m) in
    let b = after_drive (has_bit value 2) (has_bit value 3) (machine_b m) in
    record m { lie_a = a.lie; lie_b = b.lie; wait_a = a.wait; wait_b = b.wait }

-- a machine's two bits of a report: 1 where it is detected normal, 2 where it is detected reverse,
-- 0 while it waits or is jammed
abbrev pub detection_of : MachineState → ℕ
detection_of machine =
    if machine.jammed || not (machine.wait == 0) then 0 else if machine.lie then 2 else 1

-- the byte that a live module reports: points the detections of both machines, a signal its lamps
-- that haven't failed, a track its inputs that aren't occupied
abbrev pub reported_bits : ModuleState → ℕ
reported_bits m =
    if m.kind == points_kind
    then detection_of (machine_a m) + 4 * detection_of (machine_b m)
    else 255 - m.bits

-- what a module reports: nothing where it is dead
abbrev pub report_of : ModuleState → Option ℕ
report_of m = if m.dead then None else Some (reported_bits m)

-- how many pins a module of a kind has
abbrev pub pins_of : ℕ → ℕ
pins_of kind = if kind == points_kind then 2 else 8

-- a module after an event at a pin that concerns one kind alone
abbrev pub after_pin : ℕ → ModuleState → ℕ → Bool → ModuleState
after_pin kind m pin on =
    if m.kind == kind && nat_lt pin (pins_of kind)
    then record m { bits = with_bit m.bits pin on }
    else m

-- a module after an event
abbrev pub after_event : ModuleState → Event → ModuleState
after_event m (Occupy pin) = after_pin track_kind m pin true
after_event m (Clear pin) = after_pin track_kind m pin false
after_event m (Fail pin) = after_pin signal_kind m pin true
after_event m (Mend pin) = after_pin signal_kind m pin false
after_event m (Jam pin) = after_pin points_kind m pin true
after_event m (Unjam pin) = after_pin points_kind m pin false
after_event m Dead = record m { dead = true }
after_event m Live = record m { dead = false }
