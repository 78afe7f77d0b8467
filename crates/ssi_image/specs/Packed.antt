-- A data set whose conditions and bodies are code bytes, and the pieces of code that it is made of.
use Rattle.std.specs.Prelude.{ℕ, Bool, List, [], ◌∷◌, ◌++◌, map, Option, Some, None, option_map}
use Rattle.std.specs.List.{flat_map}
use Rattle.ssi_identities.specs.declared.data_set.RequestRow.{RequestRow}
use Rattle.ssi_identities.specs.declared.fact.Kind.{Kind}
use Rattle.ssi_identities.specs.declared.fact.Kind.TheVariants.{Points, Signal, Track, Route, Subroute, Flag, Request}
use Rattle.ssi_identities.specs.declared.rule.Body.{Body}
use Rattle.ssi_identities.specs.declared.rule.Cond.{Cond}
use Rattle.ssi_identities.specs.Allowed.{body_of_commands}
use Rattle.ssi_identities.specs.Codes.{code_of_cond, code_of_body}
use Rattle.ssi_identities.specs.DataSets.{PointsPlan, RoutePlan, SubPlan, StmtPlan, ModulePlan, Plan}

-- points, with the code of their conditions
pub record PackedPoints : Type 0 where
  pub name : List ℕ
  pub tracks : List ℕ
  pub free_normal : Option (List ℕ)
  pub free_reverse : Option (List ℕ)

-- a request, with the code of its body
pub record PackedRequest : Type 0 where
  pub name : List ℕ
  pub body : List ℕ

-- a statement: the code of its guard, and that of its commands as a body
pub record PackedStatement : Type 0 where
  pub guard : List ℕ
  pub commands : List ℕ

-- a module's address, kind and wiring
pub record Wiring : Type 0 where
  pub address : ℕ
  pub kind : ℕ
  pub pins : List (Option ℕ)

-- a data set with its conditions and bodies as code; for each module the code of the bits that are sent to it, and that of its input
pub record Packed : Type 0 where
  pub points : List PackedPoints
  pub signals : List (List ℕ)
  pub tracks : List (List ℕ)
  pub routes : List RoutePlan
  pub subs : List SubPlan
  pub flags : List (List ℕ)
  pub requests : List PackedRequest
  pub statements : List PackedStatement
  pub modules : List Wiring
  pub outputs : List (List (Option (List ℕ)))
  pub inputs : List (Option (List ℕ))

abbrev pub packed_points : PointsPlan → PackedPoints
packed_points row = record { name = row.name; tracks = row.tracks; free_normal = option_map code_of_cond row.free_normal; free_reverse = option_map code_of_cond row.free_reverse }

abbrev pub packed_request : RequestRow → PackedRequest
packed_request row = record { name = row.name; body = code_of_body row.body }

abbrev pub packed_statement : StmtPlan → PackedStatement
packed_statement row = record { guard = code_of_cond row.guard; commands = code_of_body (body_of_commands row.commands) }

abbrev pub wiring_of : ModulePlan → Wiring
wiring_of row = record { address = row.address; kind = row.kind; pins = row.pins }

abbrev pub packed_outputs : ModulePlan → List (Option (List ℕ))
packed_outputs row = map (option_map code_of_cond) row.outputs

abbrev pub packed_input : ModulePlan → Option (List ℕ)
packed_input row = option_map code_of_body row.input

-- a data set, packed
abbrev pub packed_of : Plan → Packed
packed_of plan = record {
  points = map packed_points plan.points;
  signals = plan.signals;
  tracks = plan.tracks;
  routes = plan.routes;
  subs = plan.subs;
  flags = plan.flags;
  requests = map packed_request plan.requests;
  statements = map packed_statement plan.statements;
  modules = map wiring_of plan.modules;
  outputs = map packed_outputs plan.modules;
  inputs = map packed_input plan.modules;
}

-- the names of a kind in a packed data set
abbrev pub packed_names : Packed → Kind → List (List ℕ)
packed_names packed Points = map (λ row. row.name) packed.points
packed_names packed Signal = packed.signals
packed_names packed Track = packed.tracks
packed_names packed Route = map (λ row. row.name) packed.routes
packed_names packed Subroute = map (λ row. row.name) packed.subs
packed_names packed Flag = packed.flags
packed_names packed Request = map (λ row. row.name) packed.requests

-- ---- the pieces of code, in the order of an image

-- no piece where there is no condition and no body
abbrev pub piece_or_none : Option (List ℕ) → List (List ℕ)
piece_or_none None = []
piece_or_none (Some piece) = piece ∷ []

-- of points: for normal, for reverse
abbrev pub move_pieces : PointsPlan → List (List ℕ)
move_pieces row = piece_or_none (option_map code_of_cond row.free_normal) ++ piece_or_none (option_map code_of_cond row.free_reverse)

-- of a request
abbrev pub request_pieces : RequestRow → List (List ℕ)
request_pieces row = code_of_body row.body ∷ []

-- of a statement: its guard, its commands
abbrev pub statement_pieces : StmtPlan → List (List ℕ)
statement_pieces row = code_of_cond row.guard ∷ code_of_body (body_of_commands row.commands) ∷ []

-- of the bits that are sent to a module, bit 0 first
abbrev pub output_pieces : ModulePlan → List (List ℕ)
output_pieces row = flat_map (λ output. piece_or_none (option_map code_of_cond output)) row.outputs

-- of a module's input
abbrev pub input_pieces : ModulePlan → List (List ℕ)
input_pieces row = piece_or_none (option_map code_of_body row.input)

-- the code of each condition and body that a data set has: when points are free, requests, statements, outputs, inputs
abbrev pub pieces_of : Plan → List (List ℕ)
pieces_of plan =
    flat_map move_pieces plan.points
    ++ (flat_map request_pieces plan.requests ++ (flat_map statement_pieces plan.statements ++ (flat_map output_pieces plan.modules ++ flat_map input_pieces plan.modules)))
