-- The members of a shelf that belong to no module of a layout.
use Rattle.std.specs.Prelude.{◌≡◌, ℕ, ◌<◌, ◌≤◌, List, length, Some, option_map}
use Rattle.ssi_identities.specs.DataSets.{Plan}
use Rattle.ssi_cycle.specs.Exchanges.{module_in}
use Rattle.ssi_trackside.specs.Module.{ModuleState}
use Rattle.ssi_trackside.specs.Shelf.{module_at, place_of}

-- the layout has a module with this address and this kind
abbrev pub HasModule : Plan → ℕ → ℕ → Type 0
HasModule plan address kind = option_map (λ row. row.kind) (module_in plan address) ≡ Some kind

-- a shelf has as many members as before, and each that belongs to no module of the layout is as it was
pub record OthersStay (plan : Plan) (before after : List ModuleState) : Type 0 where
  pub as_many : length after ≡ length before
  pub others : (address kind : ℕ) → 1 ≤ address → address ≤ 63 → kind < 3 → ¬ HasModule plan address kind
      → module_at after (place_of address kind) ≡ module_at before (place_of address kind)
