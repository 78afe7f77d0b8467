-- The numbers of two facts differ.
use Rattle.std.proofs.Common.{◌≡◌, ℕ, ◌<◌, refl, arith}
use Rattle.ssi_identities.specs.declared.fact.Counts.{Counts}
use Rattle.ssi_identities.specs.declared.fact.FactKind.{FactKind}
use Rattle.ssi_identities.specs.declared.fact.FactKind.TheVariants.{Reverse, DetectedNormal, DetectedReverse, Lamp, Occupied, RouteSet, RouteBarred, Locked, FlagSet}
use Rattle.ssi_identities.specs.Facts.{count_of, fact_number_of}

-- facts of one number are of one kind and of one identity
pub same_fact : (counts : Counts) (kind other : FactKind) (i j : ℕ) → i < count_of counts kind → j < count_of counts other
    → fact_number_of counts kind i ≡ fact_number_of counts other j → (kind ≡ other) × (i ≡ j)
same_fact counts Reverse Reverse i j h k e = (refl, omega arith)
same_fact counts DetectedNormal DetectedNormal i j h k e = (refl, omega arith)
same_fact counts DetectedReverse DetectedReverse i j h k e = (refl, omega arith)
same_fact counts Lamp Lamp i j h k e = (refl, omega arith)
same_fact counts Occupied Occupied i j h k e = (refl, omega arith)
same_fact counts RouteSet RouteSet i j h k e = (refl, omega arith)
same_fact counts RouteBarred RouteBarred i j h k e = (refl, omega arith)
same_fact counts Locked Locked i j h k e = (refl, omega arith)
same_fact counts FlagSet FlagSet i j h k e = (refl, omega arith)
same_fact counts _ _ i j h k e = absurd (omega arith)
