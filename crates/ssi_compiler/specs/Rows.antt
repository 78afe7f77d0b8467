-- Rows of well data sets.
use Rattle.ssi_identities.specs.DataSets.{Plan}

-- a row that is well in some data set
abbrev pub IsWellInSome : {X : Type 0} → (Plan → X → Type 0) → X → Type 0
IsWellInSome IsWellIn row = (plan : Plan) × IsWellIn plan row
