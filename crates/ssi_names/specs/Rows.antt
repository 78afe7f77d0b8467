-- The data set of a source: numbers in place of names, each list in written order. It tells something only where the
-- source has no name faults.
use Rattle.std.specs.Prelude.{ℕ, Bool, true, false, ◌&&◌, codes, List, map, length, position, replicate, Option, Some, None, option_map, unwrap_or}
use Rattle.std.specs.List.{find, position_or_len}
use Rattle.std.specs.Str.{bytes_eq}
use Rattle.ssi_identities.specs.declared.fact.Kind.{Kind}
use Rattle.ssi_identities.specs.declared.fact.Kind.TheVariants.{Points, Signal, Track, Route, Subroute, Flag, Request}
use Rattle.ssi_identities.specs.declared.fact.Counts.{Counts}
use Rattle.ssi_identities.specs.declared.fact.FactKind.{FactKind}
use Rattle.ssi_identities.specs.declared.data_set.RequestRow.{RequestRow}
use Rattle.ssi_identities.specs.declared.rule.Cond.{Cond}
use Rattle.ssi_identities.specs.declared.rule.Body.{Body}
use Rattle.ssi_identities.specs.DataSets.{PointsPlan, RoutePlan, SubPlan, StmtPlan, ModulePlan, Plan}
use Rattle.ssi_identities.specs.Facts.{fact_number_of}
use Rattle.ssi_terms.specs.declared.tree.Spot.{Spot}
use Rattle.ssi_terms.specs.declared.tree.BodyTree.{BodyTree}
use Rattle.ssi_terms.specs.declared.tree.CondTree.{CondTree}
use Rattle.ssi_terms.specs.Trees.{PointsText, RouteText, SubText, ModuleText}
use Rattle.ssi_pfm.specs.Rules.{RulesText}
use Rattle.ssi_fop.specs.Statements.{StatementText}
use Rattle.ssi_opt.specs.Outputs.{OutputText, OutputsText}
use Rattle.ssi_ipt.specs.Inputs.{InputsText}
use Rattle.ssi_names.specs.SourceTexts.{SourceText}
use Rattle.ssi_names.specs.BodyRows as BodyRows
use Rattle.ssi_names.specs.BodyRows.{cond_row, body_row}
use Rattle.ssi_names.specs.ModuleRows.{module_by}
use Rattle.ssi_names.specs.Declarations.{declared, is_for_lie}
use Rattle.ssi_names.specs.Texts.{characters}
use Rattle.ssi_names.specs.Words.{kind_of}

-- the number of a name: the place of its first declaration
abbrev pub number_in : List ℕ → List (List ℕ) → Spot → ℕ
number_in text names name = position_or_len (bytes_eq (characters text name)) names

-- the number of a fact by its identity's number; 0 where there is none
abbrev pub number_at : Counts → FactKind → Option ℕ → ℕ
number_at counts fact None = 0
number_at counts fact (Some index) = fact_number_of counts fact index

-- the number of a fact of the identity with a name
abbrev pub fact_by_name : Counts → (Kind → List (List ℕ)) → FactKind → List ℕ → ℕ
fact_by_name counts names fact name = number_at counts fact (position (bytes_eq name) (names (kind_of name)))

-- the number of a name among those of its kind
abbrev pub number_by_name : (Kind → List (List ℕ)) → List ℕ → ℕ
number_by_name names name = position_or_len (bytes_eq name) (names (kind_of name))

-- how many names of each kind there are
abbrev pub counts_by : (Kind → List (List ℕ)) → Counts
counts_by names = record {
  points = length (names Points);
  signals = length (names Signal);
  tracks = length (names Track);
  routes = length (names Route);
  subs = length (names Subroute);
  flags = length (names Flag);
  requests = length (names Request);
}

module _ (text : List ℕ) (names : Kind → List (List ℕ)) where
  -- a condition with numbers
  abbrev pub condition : CondTree → Cond
  condition = cond_row text (fact_by_name (counts_by names) names) (number_by_name names)

  -- a body with numbers
  abbrev pub body : BodyTree → Body
  body = body_row text (fact_by_name (counts_by names) names) (number_by_name names)

  -- the condition for a move of points to a lie: that of the entry of PFM that has both
  abbrev pub move_row : RulesText → List ℕ → Bool → Option Cond
  move_row rules name lie = option_map (λ rule. condition rule.2) (find (λ rule. bytes_eq name (characters text rule.0) && is_for_lie text lie rule) rules)

  -- points with the tracks that they lie over, and when they are free to move
  abbrev pub points_row : RulesText → PointsText → PointsPlan
  points_row rules entry = record {
    name = characters text entry.name;
    tracks = map (number_in text (names Track)) entry.tracks;
    free_normal = move_row rules (characters text entry.name) false;
    free_reverse = move_row rules (characters text entry.name) true;
  }

  -- a route with its signal and its sub-routes
  abbrev pub route_row : RouteText → RoutePlan
  route_row entry = record {
    name = characters text entry.name;
    signal = number_in text (names Signal) entry.signal;
    subs = map (number_in text (names Subroute)) entry.subs;
  }

  -- points, and whether they have to lie reverse
  abbrev pub lie_row : Spot × Spot → ℕ × Bool
  lie_row lie = (number_in text (names Points) lie.0, bytes_eq (characters text lie.1) (codes "cr"))

  -- a sub-route with its track and its points
  abbrev pub sub_row : SubText → SubPlan
  sub_row entry = record {
    name = characters text entry.name;
    track = number_in text (names Track) entry.track;
    lies = map lie_row entry.lies;
  }

  -- a request with its body
  abbrev pub request_row : Spot × BodyTree → RequestRow
  request_row entry = record { name = characters text entry.0; body = body entry.1 }

  -- a statement with its commands and its guard
  abbrev pub statement_row : StatementText → StmtPlan
  statement_row = BodyRows.statement_row text (fact_by_name (counts_by names) names) (number_by_name names)

  -- the eight bits that are sent to a module, by an entry of OPT
  abbrev pub outputs_row : OutputText → List (Option Cond)
  outputs_row = BodyRows.outputs_row text (fact_by_name (counts_by names) names) (number_by_name names)

  -- the bits that are sent to the module with an address: those of the entry of OPT that has it; no bit has a condition where there is none
  abbrev pub outputs_at : OutputsText → List ℕ → List (Option Cond)
  outputs_at outputs address =
      unwrap_or (option_map outputs_row (find (λ entry. bytes_eq address (characters text entry.address)) outputs)) (replicate 8 None)

  -- what a report of the module with an address does: what the entry of IPT says that has it
  abbrev pub input_at : InputsText → List ℕ → Option Body
  input_at inputs address = option_map (λ entry. body entry.1) (find (λ entry. bytes_eq address (characters text entry.0)) inputs)

  -- a module with its wiring, the bits that are sent to it, and what its reports do
  abbrev pub module_row : OutputsText → InputsText → ModuleText → ModulePlan
  module_row outputs inputs entry = module_by text names (outputs_at outputs (characters text entry.address)) (input_at inputs (characters text entry.address)) entry

  -- the data set, by the names of each kind
  abbrev pub plan_by : SourceText → Plan
  plan_by tree = record {
    points = map (points_row tree.free) tree.identities.points;
    signals = map (λ name. characters text name) tree.identities.signals;
    tracks = map (λ name. characters text name) tree.identities.tracks;
    routes = map route_row tree.identities.routes;
    subs = map sub_row tree.identities.subs;
    flags = map (λ name. characters text name) tree.identities.flags;
    requests = map request_row tree.requests;
    statements = map statement_row tree.statements;
    modules = map (module_row tree.outputs tree.inputs) tree.identities.modules;
  }

-- the data set of a text with this tree
abbrev pub resolved : List ℕ → SourceText → Plan
resolved text tree = plan_by text (declared text tree) tree
