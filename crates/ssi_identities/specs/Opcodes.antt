-- The first bytes of items of conditions and bodies.
use Rattle.std.specs.Prelude.{ℕ, ◌==◌, if◌then◌else◌, true, false, List, [], ◌∷◌, Option}
use Rattle.std.specs.List.{find}
use Rattle.ssi_identities.specs.declared.opcode.CondOp.{CondOp}
use Rattle.ssi_identities.specs.declared.opcode.CondOp.TheVariants.{Fact, Bit, Free, Group}
use Rattle.ssi_identities.specs.declared.opcode.BodyOp.{BodyOp}
use Rattle.ssi_identities.specs.declared.opcode.BodyOp.TheVariants.{Set, If}

-- the first byte of an item of a condition: a fact is false, is true; a bit is 0, is 1; points are free to normal, to reverse; a group
abbrev pub cond_byte_of : CondOp → ℕ
cond_byte_of (Fact wanted) = if wanted then 0x11 else 0x10
cond_byte_of (Bit wanted) = if wanted then 0x13 else 0x12
cond_byte_of (Free reverse) = if reverse then 0x15 else 0x14
cond_byte_of Group = 0x16

-- the first byte of an item of a body: a fact becomes false, becomes true; a choice
abbrev pub body_byte_of : BodyOp → ℕ
body_byte_of (Set value) = if value then 0x21 else 0x20
body_byte_of If = 0x22

-- what items of conditions begin with
abbrev pub cond_ops : List CondOp
cond_ops = Fact false ∷ Fact true ∷ Bit false ∷ Bit true ∷ Free false ∷ Free true ∷ Group ∷ []

-- what items of bodies begin with
abbrev pub body_ops : List BodyOp
body_ops = Set false ∷ Set true ∷ If ∷ []

-- what a byte says of the item of a condition that begins with it, if one does
abbrev pub cond_op_of : ℕ → Option CondOp
cond_op_of byte = find (λ op. cond_byte_of op == byte) cond_ops

-- what a byte says of the item of a body that begins with it, if one does
abbrev pub body_op_of : ℕ → Option BodyOp
body_op_of byte = find (λ op. body_byte_of op == byte) body_ops
