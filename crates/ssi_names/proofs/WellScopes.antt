-- What the data set of a text without faults allows conditions and bodies to name.
use Rattle.std.proofs.Common.{◌≡◌, ℕ, suc, ◌+◌, ◌<◌, ◌&&◌, ◌||◌, Bool, true, false, not, List, [], ◌∷◌, length, map, Option, Some, None, is_some, cond, refl, ap, sym, ◌∙◌, arith}
use Rattle.std.specs.Prelude.{slice_get, if◌then◌else◌}
use Rattle.std.specs.List.{filter, find, list_any, position_or_len}
use Rattle.std.specs.Option.{option_and_then, option_map}
use Rattle.std.specs.Str.{bytes_eq}
use Rattle.std.proofs.Math.Bool.{and-true, and-false}
use Rattle.std.proofs.lemmas.List.{length-map}
use Rattle.std.proofs.lemmas.Option.{slice_get-map}
use Rattle.std.proofs.lemmas.Simd.{map-map}
use Rattle.std.proofs.lemmas.Slice.Eq.{bytes_eq-Decides}
use Rattle.ssi_identities.specs.declared.data_set.RequestRow.{RequestRow}
use Rattle.ssi_identities.specs.declared.fact.Counts.{Counts}
use Rattle.ssi_identities.specs.declared.fact.FactKind.{FactKind}
use Rattle.ssi_identities.specs.declared.fact.Kind.{Kind}
use Rattle.ssi_identities.specs.declared.fact.Kind.TheVariants.{Points, Signal, Track, Route, Subroute, Flag, Request}
use Rattle.ssi_identities.specs.Allowed.{is_decided, is_fact_of, is_number_of, is_reported}
use Rattle.ssi_identities.specs.DataSets.{PointsPlan, RoutePlan, SubPlan, counts_of, names_in}
use Rattle.ssi_identities.specs.Facts.{count_of, fact_count_of, fact_number_of}
use Rattle.ssi_identities.specs.Values.{move_condition_of}
use Rattle.ssi_identities.specs.Wells.{scope_of_moves, scope_of_conds, scope_of_decisions, scope_of_inputs}
use Rattle.ssi_identities.proofs.FactOrder.{in_order}
use Rattle.ssi_terms.specs.declared.tree.Spot.{Spot}
use Rattle.ssi_terms.specs.declared.tree.BodyTree.{BodyTree}
use Rattle.ssi_terms.specs.declared.tree.CondTree.{CondTree}
use Rattle.ssi_terms.specs.Trees.{PointsText, RouteText, SubText}
use Rattle.ssi_names.specs.declared.rule_file.RuleFile.{RuleFile}
use Rattle.ssi_names.specs.declared.rule_file.RuleFile.TheVariants.{Requests, Moves, Statements, Outputs, Inputs}
use Rattle.ssi_names.specs.Declarations.{declared, declared_in, has_rule_in, is_for_lie}
use Rattle.ssi_names.specs.NameLists.{is_among}
use Rattle.ssi_names.specs.Rows.{condition, counts_by, move_row, number_by_name, points_row, request_row, resolved, route_row, sub_row}
use Rattle.ssi_names.specs.SourceTexts.{SourceText}
use Rattle.ssi_names.specs.Texts.{characters}
use Rattle.ssi_names.specs.Words.{is_of_inputs, kind_of}
use Rattle.ssi_names.proofs.WellWords.{AllowsConds, AllowsBodies}

-- ---- names and counts

-- as many rows as names, and as many names as entries
pub same_count : {X Y : Type 0} (name : X → List ℕ) (row : X → Y) (xs : List X) → length (map name xs) ≡ length (map row xs)
same_count name row xs =
    let named : length (map name xs) ≡ length xs = simp length-map in
    let made : length (map row xs) ≡ length xs = simp length-map in
    named ∙ sym made

-- the names of the data set are those that are declared
pub names_are : (text : List ℕ) (tree : SourceText) (kind : Kind) → names_in (resolved text tree) kind ≡ declared text tree kind
names_are text tree Points = map-map (λ (row : PointsPlan). row.name) (points_row text (declared text tree) tree.free) tree.identities.points
names_are text tree Signal = refl
names_are text tree Track = refl
names_are text tree Route = map-map (λ (row : RoutePlan). row.name) (route_row text (declared text tree)) tree.identities.routes
names_are text tree Subroute = map-map (λ (row : SubPlan). row.name) (sub_row text (declared text tree)) tree.identities.subs
names_are text tree Flag = refl
names_are text tree Request = map-map (λ (row : RequestRow). row.name) (request_row text (declared text tree)) tree.requests

-- so there are as many of each kind
pub counts_are : (text : List ℕ) (tree : SourceText) → counts_by (declared text tree) ≡ counts_of (resolved text tree)
counts_are text tree =
    let names = declared text tree in
    (λ i. record {
      points = same_count (λ (e : PointsText). characters text e.name) (points_row text names tree.free) tree.identities.points i;
      signals = length (names Signal);
      tracks = length (names Track);
      routes = same_count (λ (e : RouteText). characters text e.name) (route_row text names) tree.identities.routes i;
      subs = same_count (λ (e : SubText). characters text e.name) (sub_row text names) tree.identities.subs i;
      flags = length (names Flag);
      requests = same_count (λ (e : Spot × BodyTree). characters text e.0) (request_row text names) tree.requests i;
    })

-- ---- conditions of points

some_found_by : {X : Type 0} (x : X) (here there : Bool) (o : Option X) → is_some o ≡ there → is_some (cond here (Some x) o) ≡ (here || there)
some_found_by x true there o e = refl
some_found_by x false there o e = e

-- something is found where something passes
some_found : {X : Type 0} (p : X → Bool) (xs : List X) → is_some (find p xs) ≡ list_any p xs
some_found p [] = refl
some_found p (x ∷ xs) = some_found_by x (p x) (list_any p xs) (find p xs) (some_found p xs)

any_kept_by : {X Y : Type 0} (p : Y → Bool) (f : X → Y) (x : X) (kept : Bool) (xs : List X) (rest : Bool) → list_any p (map f xs) ≡ rest → list_any p (map f (cond kept (x ∷ xs) xs)) ≡ (p (f x) && kept || rest)
any_kept_by p f x true xs rest e = ap (λ b. p (f x) || b) e ∙ ap (λ b. b || rest) (sym (and-true (p (f x))))
any_kept_by p f x false xs rest e = e ∙ ap (λ b. b || rest) (sym (and-false (p (f x))))

-- something that is kept passes where something passes and is kept
any_kept : {X Y : Type 0} (p : Y → Bool) (f : X → Y) (keep : X → Bool) (xs : List X) → list_any p (map f (filter keep xs)) ≡ list_any (λ x. p (f x) && keep x) xs
any_kept p f keep [] = refl
any_kept p f keep (x ∷ xs) = any_kept_by p f x (keep x) (filter keep xs) (list_any (λ y. p (f y) && keep y) xs) (any_kept p f keep xs)

made_some : {X Y : Type 0} (f : X → Y) (o : Option X) → is_some (option_map f o) ≡ is_some o
made_some f None = refl
made_some f (Some x) = refl

-- points have a condition for a move where a rule has their name and the lie
has_move : (text : List ℕ) (tree : SourceText) (name : List ℕ) (lie : Bool) → is_some (move_row text (declared text tree) tree.free name lie) ≡ has_rule_in text tree name lie
has_move text tree name lie =
    let test = λ (rule : Spot × Spot × CondTree). bytes_eq name (characters text rule.0) && is_for_lie text lie rule in
    made_some (λ (rule : Spot × Spot × CondTree). condition text (declared text tree) rule.2) (find test tree.free) ∙ some_found test tree.free
    ∙ sym (any_kept (bytes_eq name) (λ (rule : Spot × Spot × CondTree). characters text rule.0) (is_for_lie text lie) tree.free)

entry_by : {X : Type 0} (name_of : X → List ℕ) (name : List ℕ) (x : X) (xs : List X) (here there : Bool) → bytes_eq name (name_of x) ≡ here → (here || there) ≡ true
    → (there ≡ true → (y : X) × (slice_get xs (position_or_len (bytes_eq name) (map name_of xs)) ≡ Some y) × (name_of y ≡ name))
    → (y : X) × (slice_get (x ∷ xs) (cond (not here) (1 + position_or_len (bytes_eq name) (map name_of xs)) 0) ≡ Some y) × (name_of y ≡ name)
entry_by name_of name x xs true there is found rest = (x, refl, sym ((bytes_eq-Decides name (name_of x)).0 is))
entry_by name_of name x xs false there is found rest =
    let other = rest found in
    let place = position_or_len (bytes_eq name) (map name_of xs) in
    let next : 1 + place ≡ suc place = omega arith in
    (other.0, ap (slice_get (x ∷ xs)) next ∙ other.1, other.2)

-- at the place of a name stands an entry with the name
entry_at : {X : Type 0} (name_of : X → List ℕ) (xs : List X) (name : List ℕ) → is_among name (map name_of xs) ≡ true
    → (x : X) × (slice_get xs (position_or_len (bytes_eq name) (map name_of xs)) ≡ Some x) × (name_of x ≡ name)
entry_at name_of [] name found = absurd cc
entry_at name_of (x ∷ xs) name found = entry_by name_of name x xs (bytes_eq name (name_of x)) (is_among name (map name_of xs)) refl found (entry_at name_of xs name)

condition_by : (row : PointsPlan) (lie normal reverse : Bool) → is_some row.free_normal ≡ normal → is_some row.free_reverse ≡ reverse
    → is_some (if lie then row.free_reverse else row.free_normal) ≡ (if lie then reverse else normal)
condition_by row true normal reverse e h = h
condition_by row false normal reverse e h = e

rule_by : (test : Bool → Bool) (lie : Bool) → test lie ≡ true → (if lie then test true else test false) ≡ true
rule_by test true e = e
rule_by test false e = e

-- declared points with a rule for a lie have a condition for the move to it
asked : (text : List ℕ) (tree : SourceText) (name : List ℕ) (lie : Bool) → kind_of name ≡ Points → is_among name (declared text tree Points) ≡ true → has_rule_in text tree name lie ≡ true
    → is_some (move_condition_of (resolved text tree) (number_by_name (declared text tree) name) lie) ≡ true
asked text tree name lie points found ruled =
    let entries = tree.identities.points in
    let row = points_row text (declared text tree) tree.free in
    let entry = entry_at (λ (e : PointsText). characters text e.name) entries name found in
    let number : number_by_name (declared text tree) name ≡ position_or_len (bytes_eq name) (declared text tree Points) = ap (λ kind. position_or_len (bytes_eq name) (declared text tree kind)) points in
    let there : slice_get (map row entries) (number_by_name (declared text tree) name) ≡ Some (row entry.0) =
    ap (slice_get (map row entries)) number ∙ slice_get-map row entries (position_or_len (bytes_eq name) (declared text tree Points)) ∙ ap (option_map row) entry.1
    in
    let has = λ (l : Bool). has_move text tree (characters text entry.0.name) l ∙ ap (λ n. has_rule_in text tree n l) entry.2 in
    ap (λ o. is_some (option_and_then (λ (row : PointsPlan). if lie then row.free_reverse else row.free_normal) o)) there
    ∙ condition_by (row entry.0) lie (has_rule_in text tree name false) (has_rule_in text tree name true) (has false) (has true)
    ∙ rule_by (has_rule_in text tree name) lie ruled

-- ---- what the files allow

-- the number of a fact is that of one of these where the fact is one
fact_stands : (is_kind : FactKind → Bool) (counts : Counts) (kind : FactKind) (index : ℕ) → index < count_of counts kind → is_number_of is_kind counts (fact_number_of counts kind index) ≡ is_kind kind
fact_stands is_kind counts kind index within = ap (is_fact_of is_kind) (in_order counts kind index within)

-- a text and the tree of its source
module _ (text : List ℕ) (tree : SourceText) where
  pub moves_allow : AllowsConds (declared_in text tree) (declared text tree) Moves (scope_of_moves (resolved text tree))
  moves_allow = record { facts = ap fact_count_of (sym (counts_are text tree)); bits = λ is. absurd cc; asks = λ name lie elsewhere points found ruled. absurd cc }

  pub conds_allow : (file : RuleFile) (bits : ℕ) → (is_of_inputs file ≡ true → bits ≡ 8) → AllowsConds (declared_in text tree) (declared text tree) file (scope_of_conds (resolved text tree) bits)
  conds_allow file bits eight = record { facts = ap fact_count_of (sym (counts_are text tree)); bits = eight; asks = λ name lie elsewhere. asked text tree name lie }

  commands_allow : (is_kind : FactKind → Bool) (fact : FactKind) (index : ℕ) → index < count_of (counts_by (declared text tree)) fact → is_kind fact ≡ true
      → is_number_of is_kind (counts_of (resolved text tree)) (fact_number_of (counts_by (declared text tree)) fact index) ≡ true
  commands_allow is_kind fact index within is =
      ap (λ counts. is_number_of is_kind counts (fact_number_of (counts_by (declared text tree)) fact index)) (sym (counts_are text tree))
      ∙ fact_stands is_kind (counts_by (declared text tree)) fact index within ∙ is

  pub requests_allow : AllowsBodies (declared_in text tree) (declared text tree) Requests (scope_of_decisions (resolved text tree))
  requests_allow = record { guards = conds_allow Requests 0 (λ is. absurd cc); commands = commands_allow is_decided }

  pub statements_allow : AllowsBodies (declared_in text tree) (declared text tree) Statements (scope_of_decisions (resolved text tree))
  statements_allow = record { guards = conds_allow Statements 0 (λ is. absurd cc); commands = commands_allow is_decided }

  pub outputs_allow : AllowsConds (declared_in text tree) (declared text tree) Outputs (scope_of_conds (resolved text tree) 0)
  outputs_allow = conds_allow Outputs 0 (λ is. absurd cc)

  pub inputs_allow : AllowsBodies (declared_in text tree) (declared text tree) Inputs (scope_of_inputs (resolved text tree))
  inputs_allow = record { guards = conds_allow Inputs 8 (λ is. refl); commands = commands_allow is_reported }
