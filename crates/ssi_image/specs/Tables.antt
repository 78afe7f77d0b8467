-- Tables by which the modules of a data set are found by their address, and the pins that identities are wired to.
use Rattle.std.specs.Prelude.{◌≡◌, ℕ, ◌<◌, List, length, Option, Some, None, slice_get, slice_index_or, slice_set}
use Rattle.ssi_identities.specs.declared.fact.Kind.{Kind}
use Rattle.ssi_identities.specs.declared.fact.Kind.TheVariants.{Points, Signal}
use Rattle.ssi_identities.specs.DataSets.{Plan, module_with}
use Rattle.ssi_identities.specs.Limits.{address_count}
use Rattle.ssi_image.specs.Places.{IsWiredTo}

-- by the address, the number of the module that has it
abbrev pub ArePlaces : Plan → List (Option ℕ) → Type 0
ArePlaces plan table = (address : ℕ) → address < address_count → slice_index_or table address None ≡ module_with plan address

-- by the identity's number, a module of the kind and its pin that are wired to it, where some are
abbrev pub AreWires : Plan → ℕ → List (ℕ × ℕ) → Type 0
AreWires plan kind table = (identity : ℕ) (place wire : ℕ × ℕ) → slice_get table identity ≡ Some wire → IsWiredTo plan kind identity place.0 place.1 → IsWiredTo plan kind identity wire.0 wire.1

-- so far as the pins before this pin of this module are looked at, the table has a wire of each identity that has one
pub record AreWiresBefore (plan : Plan) (kind number pin : ℕ) (table : List (ℕ × ℕ)) : Type 0 where
  pub earlier : (identity : ℕ) (place wire : ℕ × ℕ) → slice_get table identity ≡ Some wire → IsWiredTo plan kind identity place.0 place.1 → place.0 < number → IsWiredTo plan kind identity wire.0 wire.1
  pub here : (identity : ℕ) (place wire : ℕ × ℕ) → slice_get table identity ≡ Some wire → IsWiredTo plan kind identity place.0 place.1 → place.0 ≡ number → place.1 < pin → IsWiredTo plan kind identity wire.0 wire.1

-- the table, in which a pin's wire is noted at the identity that it is wired to
abbrev pub noted : List (ℕ × ℕ) → Option ℕ → ℕ × ℕ → List (ℕ × ℕ)
noted table None place = table
noted table (Some identity) place = slice_set table identity place

-- the tables of a data set: of its modules by address, and of what its points, signals and tracks are wired to
pub record TablesOf : Type 0 where
  pub places : List (Option ℕ)
  pub points : List (ℕ × ℕ)
  pub signals : List (ℕ × ℕ)
  pub tracks : List (ℕ × ℕ)

-- the tables are those of the data set
pub record AreTablesOf (plan : Plan) (tables : TablesOf) : Type 0 where
  pub addresses : length tables.places ≡ address_count
  pub places_are : ArePlaces plan tables.places
  pub points_long : length tables.points ≡ length plan.points
  pub points_are : AreWires plan 0 tables.points
  pub signals_long : length tables.signals ≡ length plan.signals
  pub signals_are : AreWires plan 1 tables.signals
  pub tracks_long : length tables.tracks ≡ length plan.tracks
  pub tracks_are : AreWires plan 2 tables.tracks

-- the table of a kind of identity
abbrev pub wires_of : TablesOf → Kind → List (ℕ × ℕ)
wires_of tables Points = tables.points
wires_of tables Signal = tables.signals
wires_of tables _ = tables.tracks
