-- The facts of a state: their kinds, their order and their numbers.
use Rattle.std.specs.Prelude.{ℕ, ◌+◌, ◌*◌, ◌≤◌, List, [], ◌∷◌, ◌++◌, map}
use Rattle.std.specs.List.{flat_map, range_with_len}
use Rattle.ssi_identities.specs.declared.fact.Counts.{Counts}
use Rattle.ssi_identities.specs.declared.fact.Kind.{Kind}
use Rattle.ssi_identities.specs.declared.fact.Kind.TheVariants.{Points, Signal, Track, Route, Subroute, Flag}
use Rattle.ssi_identities.specs.declared.fact.FactKind.{FactKind}
use Rattle.ssi_identities.specs.declared.fact.FactKind.TheVariants.{Reverse, DetectedNormal, DetectedReverse, Lamp, Occupied, RouteSet, RouteBarred, Locked, FlagSet}
use Rattle.ssi_identities.specs.Limits.{most_points, most_signals, most_tracks, most_routes, most_subs, most_flags, most_requests}

-- the limits of a layout
pub record IsWithinLimits (counts : Counts) : Type 0 where
  pub points : counts.points ≤ most_points
  pub signals : counts.signals ≤ most_signals
  pub tracks : counts.tracks ≤ most_tracks
  pub routes : counts.routes ≤ most_routes
  pub subs : counts.subs ≤ most_subs
  pub flags : counts.flags ≤ most_flags
  pub requests : counts.requests ≤ most_requests

-- the kind of identity that a fact is of
abbrev pub identity_of : FactKind → Kind
identity_of Reverse = Points
identity_of DetectedNormal = Points
identity_of DetectedReverse = Points
identity_of Lamp = Signal
identity_of Occupied = Track
identity_of RouteSet = Route
identity_of RouteBarred = Route
identity_of Locked = Subroute
identity_of FlagSet = Flag

-- how many identities have a fact of this kind
abbrev pub count_of : Counts → FactKind → ℕ
count_of counts Reverse = counts.points
count_of counts DetectedNormal = counts.points
count_of counts DetectedReverse = counts.points
count_of counts Lamp = counts.signals
count_of counts Occupied = counts.tracks
count_of counts RouteSet = counts.routes
count_of counts RouteBarred = counts.routes
count_of counts Locked = counts.subs
count_of counts FlagSet = counts.flags

-- three facts for points, one for a signal and a track, two for a route, one for a sub-route and a flag
abbrev pub fact_count_of : Counts → ℕ
fact_count_of counts = 3 * counts.points + counts.signals + counts.tracks + 2 * counts.routes + counts.subs + counts.flags

-- the number of the first fact of a route
abbrev pub first_of_routes : Counts → ℕ
first_of_routes counts = 3 * counts.points + counts.signals + counts.tracks

-- the facts of points come first, then those of signals, tracks, routes, sub-routes and flags
abbrev pub fact_number_of : Counts → FactKind → ℕ → ℕ
fact_number_of counts Reverse index = 3 * index
fact_number_of counts DetectedNormal index = 3 * index + 1
fact_number_of counts DetectedReverse index = 3 * index + 2
fact_number_of counts Lamp index = 3 * counts.points + index
fact_number_of counts Occupied index = 3 * counts.points + counts.signals + index
fact_number_of counts RouteSet index = first_of_routes counts + 2 * index
fact_number_of counts RouteBarred index = first_of_routes counts + 2 * index + 1
fact_number_of counts Locked index = first_of_routes counts + 2 * counts.routes + index
fact_number_of counts FlagSet index = first_of_routes counts + 2 * counts.routes + counts.subs + index

-- a fact: its kind, and the number of its identity
pub record Fact : Type 0 where
  pub kind : FactKind
  pub index : ℕ

-- the number of a fact
abbrev pub number_of_fact : Counts → Fact → ℕ
number_of_fact counts fact = fact_number_of counts fact.kind fact.index

-- the facts of one identity: one of each of these kinds
abbrev pub facts_about : List FactKind → ℕ → List Fact
facts_about kinds index = map (λ kind. record { kind = kind; index = index }) kinds

-- the facts of so many identities, all of one before those of the next
abbrev pub facts_of_each : List FactKind → ℕ → List Fact
facts_of_each kinds count = flat_map (facts_about kinds) (range_with_len 0 count)

-- all facts, in the order of their numbers
abbrev pub facts_of : Counts → List Fact
facts_of counts =
    facts_of_each (Reverse ∷ DetectedNormal ∷ DetectedReverse ∷ []) counts.points
    ++ facts_of_each (Lamp ∷ []) counts.signals
    ++ facts_of_each (Occupied ∷ []) counts.tracks
    ++ facts_of_each (RouteSet ∷ RouteBarred ∷ []) counts.routes
    ++ facts_of_each (Locked ∷ []) counts.subs
    ++ facts_of_each (FlagSet ∷ []) counts.flags
