-- A data set with one identity of each kind, and states of it: what is computed of them holds the definition of changes
-- to texts that were written by hand.
use Rattle.std.specs.Prelude.{Bool, true, false, [], ◌∷◌, None, codes, replicate}
use Rattle.ssi_identities.specs.DataSets.{Plan}
use Rattle.ssi_identities.specs.States.{State}

-- points, a signal, a track, a route, a sub-route and a flag
abbrev pub one_of_each : Plan
one_of_each = record {
  points = record { name = codes "P1"; tracks = 0 ∷ []; free_normal = None; free_reverse = None } ∷ [];
  signals = codes "S1" ∷ [];
  tracks = codes "T1" ∷ [];
  routes = record { name = codes "R1"; signal = 0; subs = 0 ∷ [] } ∷ [];
  subs = record { name = codes "U1"; track = 0; lies = (0, true) ∷ [] } ∷ [];
  flags = codes "L1" ∷ [];
  requests = [];
  statements = [];
  modules = [];
}

-- each of the nine facts has this value
abbrev pub all_are : Bool → State
all_are value = record { facts = replicate 9 value }

-- points commanded normal and detected so, a proved lamp, a clear track, a route set, a locked sub-route and a flag
abbrev pub mixed : State
mixed = record { facts = false ∷ true ∷ false ∷ true ∷ false ∷ true ∷ false ∷ true ∷ true ∷ [] }
