-- What is read from a source to its end, and what is written to a sink in pieces. Bytes that are untold bind nothing.
use Rattle.std.specs.Prelude.{ℕ, ◌<◌, ◌≤◌, List, Option, length, take, Result, OnOk, OnErr}
use Rattle.std.specs.Io.KnownBytes.{Consumes, Appends, IsAtEnd}
use Rattle.ssi_base.specs.Faults.{Faults, GoesOn, HasCause}

-- These bytes are all that the source gave up to its end, and no more than the limit.
pub record ReadsToEnd (old new : Option (List ℕ)) (limit : ℕ) (bytes : List ℕ) : Type 0 where
  pub given : Consumes old new bytes
  pub end : IsAtEnd new
  pub within : length bytes ≤ limit

-- The source gave a byte past the limit.
abbrev pub GivesPast : Option (List ℕ) → Option (List ℕ) → ℕ → Type 0
GivesPast old new limit = (bytes : List ℕ) × Consumes old new bytes × (limit < length bytes)

-- The source gave no byte past the limit.
abbrev pub GivesWithin : Option (List ℕ) → Option (List ℕ) → ℕ → Type 0
GivesWithin old new limit = (bytes : List ℕ) × Consumes old new bytes × (length bytes ≤ limit)

-- The sink took the front of these bytes, and not the whole.
abbrev pub AppendsPart : Option (List ℕ) → Option (List ℕ) → List ℕ → Type 0
AppendsPart old new bytes = (n : ℕ) × (n < length bytes) × Appends old new (take n bytes)

-- The whole of these bytes was written.
pub record Written (old new : Option (List ℕ)) (before now : Faults) (bytes : List ℕ) : Type 0 where
  pub appended : Appends old new bytes
  pub goes_on : GoesOn before now

-- These bytes were to be written: the whole was on `Ok`, and after an error, which has a cause, a part that isn't the whole.
pub record Writes {T E : Type 0} (old new : Option (List ℕ)) (before now : Faults) (bytes : List ℕ) (result : Result T E) : Type 0 where
  pub whole : OnOk result (Appends old new bytes)
  pub part : OnErr result (AppendsPart old new bytes)
  pub cause : HasCause before now result
