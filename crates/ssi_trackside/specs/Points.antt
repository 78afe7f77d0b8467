-- What the fields of a points module mean as the state of a module.
use Rattle.std.specs.Prelude.{ℕ, Bool, true, false}
use Rattle.ssi_trackside.specs.Module.{ModuleState, MachineState}
use Rattle.ssi_trackside.specs.Kinds.{points_kind}

-- the bits that two machines set where they are jammed: a that of pin 0, b that of pin 1
abbrev pub jam_bits : Bool → Bool → ℕ
jam_bits false false = 0
jam_bits true false = 1
jam_bits false true = 2
jam_bits true true = 3

-- points of two machines
abbrev pub points_of : Bool → MachineState → MachineState → ModuleState
points_of dead a b =
    record { kind = points_kind; dead = dead; bits = jam_bits a.jammed b.jammed; lie_a = a.lie; lie_b = b.lie; wait_a = a.wait; wait_b = b.wait }
