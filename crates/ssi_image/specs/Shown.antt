-- What an image shows: the one well data set whose code it holds.
use Rattle.std.specs.Prelude.{◌≡◌, ℕ, ◌≤◌, ⊤, List, length, Option, Some, None}
use Rattle.std.specs.Borrow.{Bor}
use Rattle.ssi_identities.specs.Allowed.{body_of_commands}
use Rattle.ssi_identities.specs.Codes.{code_of_cond, code_of_body}
use Rattle.ssi_identities.specs.DataSets.{StmtPlan, Plan}
use Rattle.ssi_identities.specs.Wells.{IsWell}
use Rattle.ssi_image.specs.Packed.{Packed, packed_of}

-- the data set is well, and packed so
pub record IsPackedOf (plan : Plan) (packed : Packed) : Type 0 where
  pub well : IsWell plan
  pub same : packed ≡ packed_of plan

-- some well data set is packed so
abbrev pub IsImage : Packed → Type 0
IsImage packed = (plan : Plan) × IsPackedOf plan packed

-- so many pieces are left at least
abbrev pub Begins : ℕ → List (List ℕ) → Type 0
Begins count pieces = count ≤ length pieces

-- the bytes of a statement's guard and of its commands as a body; nothing where there is no such statement
abbrev pub IsStatementCode : Option (Bor (List ℕ) × Bor (List ℕ)) → Option StmtPlan → Type 0
IsStatementCode None None = ⊤
IsStatementCode (Some both) (Some row) = (both.0.now ≡ code_of_cond row.guard) × (both.1.now ≡ code_of_body (body_of_commands row.commands))
IsStatementCode _ _ = ⊥
