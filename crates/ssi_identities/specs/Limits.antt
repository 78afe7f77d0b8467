-- The limits of a layout and of its rules, each said once: what is said elsewhere of how many there may be cites these.
use Rattle.std.specs.Prelude.{ℕ}

-- ---- how many a layout has at most

abbrev pub most_points : ℕ
most_points = 126

abbrev pub most_signals : ℕ
most_signals = 504

abbrev pub most_tracks : ℕ
most_tracks = 504

abbrev pub most_routes : ℕ
most_routes = 512

abbrev pub most_subs : ℕ
most_subs = 1024

abbrev pub most_flags : ℕ
most_flags = 512

abbrev pub most_requests : ℕ
most_requests = 1024

abbrev pub most_statements : ℕ
most_statements = 4096

-- one for each address but 0
abbrev pub most_modules : ℕ
most_modules = 63

-- ---- modules and their telegrams

-- how many addresses there are: 0 to 63, of which no module has 0
abbrev pub address_count : ℕ
address_count = 64

-- the bits of a report, and of what is sent to a module
abbrev pub bit_count : ℕ
bit_count = 8

-- ---- how many one entry has at most

-- the characters of a name
abbrev pub most_characters : ℕ
most_characters = 16

-- the tracks that points lie over
abbrev pub most_tracks_of_points : ℕ
most_tracks_of_points = 4

-- the sub-routes of a route
abbrev pub most_subs_of_route : ℕ
most_subs_of_route = 32

-- the points of a sub-route
abbrev pub most_points_of_sub : ℕ
most_points_of_sub = 8

-- groups in one another in a condition, and choices in one another in a body
abbrev pub most_levels : ℕ
most_levels = 8
