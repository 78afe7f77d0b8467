-- What becomes of the identities that are wired to a module which makes no report that can be taken for good.
use Rattle.std.specs.Prelude.{ℕ, Bool, true, false, List, [], ◌∷◌, Option, Some, None}
use Rattle.std.specs.List.{flat_map}
use Rattle.ssi_identities.specs.declared.fact.Counts.{Counts}
use Rattle.ssi_identities.specs.declared.fact.Kind.{Kind}
use Rattle.ssi_identities.specs.declared.fact.Kind.TheVariants.{Points, Signal, Track}
use Rattle.ssi_identities.specs.declared.fact.FactKind.{FactKind}
use Rattle.ssi_identities.specs.declared.fact.FactKind.TheVariants.{DetectedNormal, DetectedReverse, Lamp, Occupied}
use Rattle.ssi_identities.specs.DataSets.{Plan, ModulePlan, counts_of}
use Rattle.ssi_identities.specs.Facts.{fact_number_of}
use Rattle.ssi_identities.specs.States.{Setting, State, after_settings}
use Rattle.ssi_identities.specs.Wells.{wired_kind}

-- a fact of an identity, and the value that it gets
abbrev pub setting_of : Counts → FactKind → ℕ → Bool → Setting
setting_of counts kind index value = record { fact = fact_number_of counts kind index; value = value }

-- points become undetected in both lies, a lamp becomes unproved, a track becomes occupied
abbrev pub restriction_of : Counts → Kind → ℕ → List Setting
restriction_of counts Points points = setting_of counts DetectedNormal points false ∷ setting_of counts DetectedReverse points false ∷ []
restriction_of counts Signal signal = setting_of counts Lamp signal false ∷ []
restriction_of counts Track track = setting_of counts Occupied track true ∷ []
restriction_of counts _ _ = []

-- an empty pin has nothing to restrict
abbrev pub pin_restriction : Counts → Kind → Option ℕ → List Setting
pin_restriction counts kind None = []
pin_restriction counts kind (Some identity) = restriction_of counts kind identity

-- every identity at a pin of the module
abbrev pub restriction_of_module : Plan → ModulePlan → List Setting
restriction_of_module plan row = flat_map (pin_restriction (counts_of plan) (wired_kind row.kind)) row.pins

-- the state in which all that is wired to the module is restricted; all other facts stay
abbrev pub restricted : Plan → ModulePlan → State → State
restricted plan row state = after_settings state (restriction_of_module plan row)
