-- A data set that is well: within its limits, with names that differ, with numbers of what there is, and with rules that name only what their place allows.
use Rattle.std.specs.Prelude.{◌≡◌, ℕ, ◌<◌, ◌≤◌, ◌==◌, Bool, false, if◌then◌else◌, List, [], map, length, Option, Some, None, is_some, All, IfSome}
use Rattle.std.specs.List.{IsDistinct, count_by, flat_map}
use Rattle.std.specs.Str.{bytes_eq}
use Rattle.ssi_identities.specs.declared.fact.Counts.{Counts}
use Rattle.ssi_identities.specs.declared.fact.FactKind.{FactKind}
use Rattle.ssi_identities.specs.declared.fact.Kind.{Kind}
use Rattle.ssi_identities.specs.declared.fact.Kind.TheVariants.{Points, Signal, Track}
use Rattle.ssi_identities.specs.declared.rule.Cond.{Cond}
use Rattle.ssi_identities.specs.Allowed.{is_decided, is_reported, is_number_of, CondScope, BodyScope, IsWellCond, IsWellBody, body_of_commands}
use Rattle.ssi_identities.specs.DataSets.{PointsPlan, RoutePlan, SubPlan, StmtPlan, ModulePlan, Plan, counts_of, names_in}
use Rattle.ssi_identities.specs.Facts.{IsWithinLimits, fact_count_of}
use Rattle.ssi_identities.specs.IdentityNames.{IsNameOf}
use Rattle.ssi_identities.specs.Limits.{most_statements, most_modules, address_count, bit_count, most_tracks_of_points, most_subs_of_route, most_points_of_sub}
use Rattle.ssi_identities.specs.Values.{move_condition_in}

-- ---- what rules may name, said from the counts and from the conditions of points alone

-- what a condition may name, where there are so many facts, a report has so many bits, and these points may be asked about, for a lie for which they have a condition
abbrev pub scope_with : ℕ → ℕ → List PointsPlan → CondScope
scope_with facts bits points = record { facts = facts; bits = bits; may_ask = λ number reverse. is_some (move_condition_in points number reverse) }

-- what a body may name, where these facts may be commanded
abbrev pub body_scope_with : (FactKind → Bool) → Counts → ℕ → List PointsPlan → BodyScope
body_scope_with is_kind counts bits points = record { guards = scope_with (fact_count_of counts) bits points; may_command = is_number_of is_kind counts }

-- what a condition of points may name: no bit, and no points that are free in turn
abbrev pub scope_of_moves : Plan → CondScope
scope_of_moves plan = scope_with (fact_count_of (counts_of plan)) 0 []

-- what other conditions may name, where a report has so many bits
abbrev pub scope_of_conds : Plan → ℕ → CondScope
scope_of_conds plan bits = scope_with (fact_count_of (counts_of plan)) bits plan.points

-- what requests and statements may name
abbrev pub scope_of_decisions : Plan → BodyScope
scope_of_decisions plan = body_scope_with is_decided (counts_of plan) 0 plan.points

-- what the input of a module may name
abbrev pub scope_of_inputs : Plan → BodyScope
scope_of_inputs plan = body_scope_with is_reported (counts_of plan) bit_count plan.points

-- ---- size and names

-- no list of a data set is too long
pub record IsSmall (plan : Plan) : Type 0 where
  pub limits : IsWithinLimits (counts_of plan)
  pub few_statements : length plan.statements ≤ most_statements
  pub few_modules : length plan.modules ≤ most_modules

-- the names of a kind are spelled as names of the kind, and differ
pub record HasWellNames (plan : Plan) (kind : Kind) : Type 0 where
  pub names : All (IsNameOf kind) (names_in plan kind)
  pub differ : IsDistinct bytes_eq (names_in plan kind)

-- ---- layout

-- points lie over tracks that there are, one at least and not too many
pub record IsWellPoints (counts : Counts) (row : PointsPlan) : Type 0 where
  pub tracks : All (λ track. track < counts.tracks) row.tracks
  pub some : 0 < length row.tracks
  pub few : length row.tracks ≤ most_tracks_of_points

-- a route begins at a signal that there is, and has sub-routes that there are, one at least and not too many
pub record IsWellRoute (counts : Counts) (row : RoutePlan) : Type 0 where
  pub signal : row.signal < counts.signals
  pub subs : All (λ sub. sub < counts.subs) row.subs
  pub some : 0 < length row.subs
  pub few : length row.subs ≤ most_subs_of_route

-- a sub-route is on a track that there is, and has points that there are, not too many, and none of them twice
pub record IsWellSub (counts : Counts) (row : SubPlan) : Type 0 where
  pub track : row.track < counts.tracks
  pub points : All (λ lie. lie.0 < counts.points) row.lies
  pub few : length row.lies ≤ most_points_of_sub
  pub once : IsDistinct (λ a b. a == b) (map (λ lie. lie.0) row.lies)

-- points, routes and sub-routes lie well
pub record HasWellLayout (plan : Plan) : Type 0 where
  pub points : All (IsWellPoints (counts_of plan)) plan.points
  pub routes : All (IsWellRoute (counts_of plan)) plan.routes
  pub subs : All (IsWellSub (counts_of plan)) plan.subs

-- ---- wiring

-- the kind of identity that a module of this kind is wired to
abbrev pub wired_kind : ℕ → Kind
wired_kind kind = if kind == 0 then Points else if kind == 1 then Signal else Track

-- the kind of the modules that identities of this kind are wired to: points, signals and tracks are
abbrev pub wiring_kind : Kind → ℕ
wiring_kind Points = 0
wiring_kind Signal = 1
wiring_kind _ = 2

-- how many pins a module of this kind has
abbrev pub pin_count : ℕ → ℕ
pin_count kind = if kind == 0 then 2 else 8

-- a module has an address that isn't 0, one of three kinds, and the pins of its kind, which are wired to identities of its kind that there are
pub record IsWellModule (plan : Plan) (row : ModulePlan) : Type 0 where
  pub some : 0 < row.address
  pub few : row.address < address_count
  pub kind : row.kind ≤ 2
  pub pins : length row.pins ≡ pin_count row.kind
  pub wired : All (λ pin. IfSome pin (λ identity. identity < length (names_in plan (wired_kind row.kind)))) row.pins

-- whether a pin is wired to the identity with this number
abbrev pub is_wired_to : ℕ → Option ℕ → Bool
is_wired_to identity None = false
is_wired_to identity (Some wired) = wired == identity

-- all pins of the modules of a kind, module by module
abbrev pub pins_of_kind : Plan → ℕ → List (Option ℕ)
pins_of_kind plan kind = flat_map (λ row. if row.kind == kind then row.pins else []) plan.modules

-- an identity stands at exactly one pin of the modules of its kind
abbrev pub IsWiredOnce : Plan → ℕ → ℕ → Type 0
IsWiredOnce plan kind identity = count_by (is_wired_to identity) (pins_of_kind plan kind) ≡ 1

-- modules are well and differ in their addresses, and each points, signal and track is wired once, to a module of its kind
pub record HasWellWiring (plan : Plan) : Type 0 where
  pub modules : All (IsWellModule plan) plan.modules
  pub addresses : IsDistinct (λ a b. a == b) (map (λ row. row.address) plan.modules)
  pub wired : (kind : ℕ) → kind ≤ 2 → (identity : ℕ) → identity < length (names_in plan (wired_kind kind)) → IsWiredOnce plan kind identity

-- ---- rules

-- the conditions of points are well
pub record HasWellMoves (scope : CondScope) (row : PointsPlan) : Type 0 where
  pub free_normal : IfSome row.free_normal (IsWellCond scope)
  pub free_reverse : IfSome row.free_reverse (IsWellCond scope)

-- a statement's condition is well, and its commands are, as a body
pub record IsWellStatement (scope : BodyScope) (row : StmtPlan) : Type 0 where
  pub guard : IsWellCond scope.guards row.guard
  pub commands : IsWellBody scope (body_of_commands row.commands)

-- the bits that are sent to a module are eight, each with a well condition or none
pub record AreWellOutputs (scope : CondScope) (outputs : List (Option Cond)) : Type 0 where
  pub eight : length outputs ≡ bit_count
  pub each : All (λ output. IfSome output (IsWellCond scope)) outputs

-- the conditions of points, the requests, the statements, and the outputs and inputs of modules name only what their place allows
pub record HasWellRules (plan : Plan) : Type 0 where
  pub moves : All (HasWellMoves (scope_of_moves plan)) plan.points
  pub requests : All (λ row. IsWellBody (scope_of_decisions plan) row.body) plan.requests
  pub statements : All (IsWellStatement (scope_of_decisions plan)) plan.statements
  pub outputs : All (λ row. AreWellOutputs (scope_of_conds plan 0) row.outputs) plan.modules
  pub inputs : All (λ row. IfSome row.input (IsWellBody (scope_of_inputs plan))) plan.modules

-- a well data set
pub record IsWell (plan : Plan) : Type 0 where
  pub size : IsSmall plan
  pub names : (kind : Kind) → HasWellNames plan kind
  pub layout : HasWellLayout plan
  pub wiring : HasWellWiring plan
  pub rules : HasWellRules plan
