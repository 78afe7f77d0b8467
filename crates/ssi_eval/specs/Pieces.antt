-- Items and pieces at the front of some bytes.
use Rattle.std.specs.Prelude.{◌≡◌, ℕ, List, ◌∷◌, ◌++◌}
use Rattle.ssi_identities.specs.Codes.{IsShort, with_length}
use Rattle.ssi_identities.specs.declared.opcode.CondOp.{CondOp}
use Rattle.ssi_identities.specs.declared.opcode.BodyOp.{BodyOp}
use Rattle.ssi_identities.specs.Opcodes.{body_byte_of, cond_byte_of}

-- the first byte begins an item of a condition
pub record BeginsItem (bytes : List ℕ) : Type 0 where
  pub op : CondOp
  pub rest : List ℕ
  pub is : bytes ≡ cond_byte_of op ∷ rest

-- the first byte begins an item of a body
pub record BeginsPart (bytes : List ℕ) : Type 0 where
  pub op : BodyOp
  pub rest : List ℕ
  pub is : bytes ≡ body_byte_of op ∷ rest

-- a length stands there, and so many bytes after it
pub record BeginsPiece (bytes : List ℕ) : Type 0 where
  pub piece : List ℕ
  pub rest : List ℕ
  pub short : IsShort piece
  pub is : bytes ≡ with_length piece ++ rest
