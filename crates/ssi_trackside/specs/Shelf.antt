-- A shelf of modules, seen as the list of their states.
use Rattle.std.specs.Prelude.{◌≡◌, ℕ, ◌+◌, ◌-◌, ◌*◌, ◌<◌, ◌≤◌, List, length, slice_index_or}
use Rattle.ssi_trackside.specs.Module.{ModuleState, fresh}
use Rattle.ssi_trackside.specs.Kinds.{points_kind}

-- the place of the module with an address, from 1, and a kind: three places for each address, for
-- its points, its signal and its track
abbrev pub place_of : ℕ → ℕ → ℕ
place_of address kind = 3 * (address - 1) + kind

-- the module at a place of the shelf
abbrev pub module_at : List ModuleState → ℕ → ModuleState
module_at states place = slice_index_or states place (fresh points_kind)

-- a full shelf: for each address from 1 to 63 fresh points, a fresh signal and a fresh track
pub record IsShelf (states : List ModuleState) : Type 0 where
  pub full : length states ≡ 189
  pub each : (address kind : ℕ) → 1 ≤ address → address ≤ 63 → kind < 3
      → module_at states (place_of address kind) ≡ fresh kind
