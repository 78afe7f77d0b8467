-- The words of facts, as layouts and traces write them after an identity's name.
use Rattle.std.specs.Prelude.{ℕ, Bool, if◌then◌else◌, List, codes}
use Rattle.ssi_identities.specs.declared.fact.FactKind.{FactKind}
use Rattle.ssi_identities.specs.declared.fact.FactKind.TheVariants.{Reverse, DetectedNormal, DetectedReverse, Lamp, Occupied, RouteSet, RouteBarred, Locked, FlagSet}

-- the word for a fact that is true, and the word for one that is false
abbrev pub word_of : FactKind → Bool → List ℕ
word_of Reverse value = if value then codes "cr" else codes "cn"
word_of DetectedNormal value = if value then codes "dn" else codes "xdn"
word_of DetectedReverse value = if value then codes "dr" else codes "xdr"
word_of Lamp value = if value then codes "lp" else codes "xlp"
word_of Occupied value = if value then codes "o" else codes "c"
word_of RouteSet value = if value then codes "s" else codes "xs"
word_of RouteBarred value = if value then codes "xa" else codes "a"
word_of Locked value = if value then codes "l" else codes "f"
word_of FlagSet value = if value then codes "s" else codes "xs"
