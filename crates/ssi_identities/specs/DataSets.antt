-- The data set of a layout: its identities with their names, each list in written order, and how many there are.
use Rattle.std.specs.Prelude.{ℕ, ◌≤◌, ◌==◌, Bool, Option, List, [], map, length, position, slice_index_or}
use Rattle.ssi_identities.specs.declared.fact.Counts.{Counts}
use Rattle.ssi_identities.specs.declared.fact.Kind.{Kind}
use Rattle.ssi_identities.specs.declared.fact.Kind.TheVariants.{Points, Signal, Track, Route, Subroute, Flag, Request}
use Rattle.ssi_identities.specs.declared.rule.Body.{Body}
use Rattle.ssi_identities.specs.declared.rule.Cmd.{Cmd}
use Rattle.ssi_identities.specs.declared.rule.Cond.{Cond}
use Rattle.ssi_identities.specs.declared.data_set.RequestRow.{RequestRow}

-- what a layout says of points: their name, the tracks that they lie over, and when they are free to move to normal and to reverse, never where there is no condition
pub record PointsPlan : Type 0 where
  pub name : List ℕ
  pub tracks : List ℕ
  pub free_normal : Option Cond
  pub free_reverse : Option Cond

-- what a layout says of a route: its name, the signal that it begins at, and its sub-routes
pub record RoutePlan : Type 0 where
  pub name : List ℕ
  pub signal : ℕ
  pub subs : List ℕ

-- what a layout says of a sub-route: its name, its track, and its points, each with whether they have to lie reverse
pub record SubPlan : Type 0 where
  pub name : List ℕ
  pub track : ℕ
  pub lies : List (ℕ × Bool)

-- a statement: its commands, and the guard under which they act
pub record StmtPlan : Type 0 where
  pub commands : List Cmd
  pub guard : Cond

-- a trackside module: its address; its kind, 0 of points, 1 of signals, 2 of tracks; the identity that each pin is wired to, by the pin's number;
-- when each bit that is sent to it is 1, by the bit's number, never where there is no condition; and what a report of it does
pub record ModulePlan : Type 0 where
  pub address : ℕ
  pub kind : ℕ
  pub pins : List (Option ℕ)
  pub outputs : List (Option Cond)
  pub input : Option Body

-- a data set; the number of an identity is its place in the list of its kind
pub record Plan : Type 0 where
  pub points : List PointsPlan
  pub signals : List (List ℕ)
  pub tracks : List (List ℕ)
  pub routes : List RoutePlan
  pub subs : List SubPlan
  pub flags : List (List ℕ)
  pub requests : List RequestRow
  pub statements : List StmtPlan
  pub modules : List ModulePlan

-- each list is short enough that a number of 16 bits says its length
pub record IsCountable (plan : Plan) : Type 0 where
  pub points : length plan.points ≤ 65535
  pub signals : length plan.signals ≤ 65535
  pub tracks : length plan.tracks ≤ 65535
  pub routes : length plan.routes ≤ 65535
  pub subs : length plan.subs ≤ 65535
  pub flags : length plan.flags ≤ 65535
  pub requests : length plan.requests ≤ 65535

-- how many identities of each kind a data set has
abbrev pub counts_of : Plan → Counts
counts_of plan = record {
  points = length plan.points;
  signals = length plan.signals;
  tracks = length plan.tracks;
  routes = length plan.routes;
  subs = length plan.subs;
  flags = length plan.flags;
  requests = length plan.requests;
}

-- the names of a kind, each at its identity's number
abbrev pub names_in : Plan → Kind → List (List ℕ)
names_in plan Points = map (λ row. row.name) plan.points
names_in plan Signal = plan.signals
names_in plan Track = plan.tracks
names_in plan Route = map (λ row. row.name) plan.routes
names_in plan Subroute = map (λ row. row.name) plan.subs
names_in plan Flag = plan.flags
names_in plan Request = map (λ row. row.name) plan.requests

-- the name of an identity; no bytes past the last of its kind
abbrev pub name_of : Plan → Kind → ℕ → List ℕ
name_of plan kind index = slice_index_or (names_in plan kind) index []

-- the number of the module that has an address, if one has it
abbrev pub module_with : Plan → ℕ → Option ℕ
module_with plan address = position (λ row. row.address == address) plan.modules
