-- The numbers of the kinds of module, in the order in which an address has its modules on a shelf.
use Rattle.std.specs.Prelude.{ℕ}

-- points: two machines
abbrev pub points_kind : ℕ
points_kind = 0

-- a signal: eight lamps
abbrev pub signal_kind : ℕ
signal_kind = 1

-- a track: eight inputs
abbrev pub track_kind : ℕ
track_kind = 2
