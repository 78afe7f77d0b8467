-- A data set without faults is well.
use Rattle.std.proofs.Common.{◌≡◌, ℕ, ◌+◌, ◌<◌, ◌≤◌, Bool, true, false, not, List, [], ◌∷◌, ◌++◌, map, length, refl, ap, sym, subst, get_or, ◌∙◌, arith}
use Rattle.std.specs.Prelude.{⊤, All, IfSome, nat_le, ◌==◌}
use Rattle.std.specs.List.{AllByRecursion, IsDistinct, position_or_len}
use Rattle.std.specs.Str.{bytes_eq}
use Rattle.std.proofs.lemmas.Bool.{leb-false}
use Rattle.std.proofs.lemmas.List.{length-append, length-map}
use Rattle.std.proofs.lemmas.List.Elements.{All-head, All-tail, All-map}
use Rattle.std.proofs.lemmas.Simd.{map-map}
use Rattle.ssi_identities.specs.declared.fact.Kind.{Kind}
use Rattle.ssi_identities.specs.declared.fact.Kind.TheVariants.{Points, Signal, Track, Route, Subroute, Flag, Request}
use Rattle.ssi_identities.specs.Facts.{IsWithinLimits}
use Rattle.ssi_identities.specs.Allowed.{IsWellBody, IsWellCond}
use Rattle.ssi_identities.specs.DataSets.{ModulePlan, counts_of, names_in}
use Rattle.ssi_identities.specs.IdentityNames.{IsNameOf}
use Rattle.ssi_identities.specs.Wells.{scope_of_moves, scope_of_conds, scope_of_decisions, scope_of_inputs, HasWellNames, IsWellPoints, IsWellRoute, IsWellSub, wired_kind, pin_count, IsWellModule, HasWellMoves, IsWellStatement, AreWellOutputs, IsWell}
use Rattle.ssi_fop.specs.Statements.{StatementText}
use Rattle.ssi_terms.specs.declared.tree.Spot.{Spot}
use Rattle.ssi_identities.specs.declared.data_set.RequestRow.{RequestRow}
use Rattle.ssi_terms.specs.declared.tree.BodyTree.{BodyTree}
use Rattle.ssi_terms.specs.Trees.{PointsText, RouteText, SubText, ModuleText}
use Rattle.ssi_names.specs.ModuleRows.{pins_row}
use Rattle.ssi_names.specs.SourceTexts.{SourceText}
use Rattle.ssi_names.specs.Codes.{unknown, too_many, points_twice_in_subroute}
use Rattle.ssi_names.specs.declared.fault.Fault.{Fault}
use Rattle.ssi_names.specs.Declarations.{Declared, declared, declared_in}
use Rattle.ssi_names.specs.Formed.{IsSpelledBody, IsSpelledCond, AreSpelledCommands, IsFormed}
use Rattle.ssi_names.specs.Faults as f
use Rattle.ssi_names.specs.NameLists.{is_among}
use Rattle.ssi_names.specs.Occurrences.{at, in_order}
use Rattle.ssi_names.specs.Rows.{number_in, move_row, points_row, route_row, lie_row, sub_row, request_row, statement_row, outputs_at, input_at, module_row, resolved}
use Rattle.ssi_names.specs.Texts.{characters}
use Rattle.ssi_names.specs.Words.{module_kind_of}
use Rattle.ssi_names.proofs.WellRules.{moves_well, request_well, statement_well, statement_room, outputs_well, inputs_well}
use Rattle.ssi_names.proofs.WellScopes.{same_count, names_are}
use Rattle.ssi_names.proofs.WellModules.{few_modules, new_address, address_fine, pins_fine, addresses_differ, kind_small, row_wired, row_long}
use Rattle.ssi_names.proofs.Distinct.{place_below, places_differ}
use Rattle.ssi_names.proofs.WiredOnce.{wired_once}
use Rattle.ssi_names.proofs.Fine.{no_front, no_back, first_fine, each_fine, names_differ, AreNew, no_faults, new_of}

-- the name of each entry of a list without faults
each_name : {X : Type 0} (name_of : X → List ℕ) (judge : List X → X → List Fault) (P : List ℕ → Type 0) → ((earlier : List X) (x : X) → judge earlier x ≡ [] → P (name_of x))
    → (earlier xs : List X) → in_order judge earlier xs ≡ [] → AllByRecursion P (map name_of xs)
each_name name_of judge P fine earlier [] none = tt
each_name name_of judge P fine earlier (x ∷ xs) none = (
  fine earlier x (no_front (judge earlier x) (in_order judge (earlier ++ x ∷ []) xs) none),
  each_name name_of judge P fine (earlier ++ x ∷ []) xs (no_back (judge earlier x) (in_order judge (earlier ++ x ∷ []) xs) none),
)

-- as many as stand before the last, and one more
few_by : {X : Type 0} (judge : List X → X → List Fault) (Q : X → Type 0) (limit : ℕ) → ((earlier : List X) (x : X) → judge earlier x ≡ [] → Q x → length earlier < limit) → (earlier xs : List X)
    → length earlier ≤ limit → All Q xs → in_order judge earlier xs ≡ [] → length earlier + length xs ≤ limit
few_by judge Q limit room earlier [] few all none = omega (arith, few)
few_by judge Q limit room earlier (x ∷ xs) few all none =
    let here = room earlier x (no_front (judge earlier x) (in_order judge (earlier ++ x ∷ []) xs) none) (All-head Q x xs all) in
    let more : length (earlier ++ x ∷ []) ≡ length earlier + 1 = length-append earlier (x ∷ []) in
    let rest = few_by judge Q limit room (earlier ++ x ∷ []) xs (omega (arith, more, here)) (All-tail Q x xs all) (no_back (judge earlier x) (in_order judge (earlier ++ x ∷ []) xs) none) in
    omega (arith, more, rest)

-- rows of entries that are within a limit, where something is known of each entry
few_rows_where : {X Y : Type 0} (row : X → Y) (judge : List X → X → List Fault) (Q : X → Type 0) (limit : ℕ) → ((earlier : List X) (x : X) → judge earlier x ≡ [] → Q x → length earlier < limit) → (xs : List X)
    → All Q xs → in_order judge [] xs ≡ [] → length (map row xs) ≤ limit
few_rows_where row judge Q limit room xs all none =
    let few = few_by judge Q limit room [] xs (omega arith) all none in
    let same : length (map row xs) ≡ length xs = simp length-map in
    omega (arith, few, same)

-- the same where nothing is
few_rows : {X Y : Type 0} (row : X → Y) (judge : List X → X → List Fault) (limit : ℕ) → ((earlier : List X) (x : X) → judge earlier x ≡ [] → length earlier < limit) → (xs : List X)
    → in_order judge [] xs ≡ [] → length (map row xs) ≤ limit
few_rows row judge limit room xs none = few_rows_where row judge (λ x. ⊤) limit (λ earlier x fine known. room earlier x fine) xs (λ k d within. tt) none

-- a name whose first code, that it isn't declared, doesn't apply
known_by : (spot : Spot) (test : Bool) (codes : List (Bool × ℕ)) → at spot ((not test, unknown) ∷ codes) ≡ [] → test ≡ true
known_by spot true codes none = refl
known_by spot false codes none = absurd cc

-- what is declared of a kind, where these are its names
module _ (d : Declared) (kind : Kind) (names : List (List ℕ)) (are : (name : List ℕ) → d.is_declared kind name ≡ is_among name names) where
  -- a name whose first code, that it isn't declared, doesn't apply is one of the names
  is_name : (spot : Spot) (codes : List (Bool × ℕ)) → at spot ((not (d.is_declared kind (characters d.text spot)), unknown) ∷ codes) ≡ [] → is_among (characters d.text spot) names ≡ true
  is_name spot codes none = sym (are (characters d.text spot)) ∙ known_by spot (d.is_declared kind (characters d.text spot)) codes none

  -- and has a number below the count
  number_below : (spot : Spot) (codes : List (Bool × ℕ)) → at spot ((not (d.is_declared kind (characters d.text spot)), unknown) ∷ codes) ≡ [] → number_in d.text names spot < length names
  number_below spot codes none = place_below names (characters d.text spot) (is_name spot codes none)

  -- names of an entry without faults: their numbers are below the count, and they are within the limit
  members_well : (limit : ℕ) (spots : List Spot) → in_order (f.member_faults d kind limit) [] spots ≡ []
      → All (λ n. n < length names) (map (number_in d.text names) spots) × (length (map (number_in d.text names) spots) ≤ limit)
  members_well limit spots none = (
    All-map (λ n. n < length names) (number_in d.text names) spots
        (each_fine (f.member_faults d kind limit) (λ spot. number_in d.text names spot < length names)
        (λ earlier spot fine. number_below spot ((nat_le limit (length earlier), too_many) ∷ []) fine) [] spots none),
    few_rows (number_in d.text names) (f.member_faults d kind limit) limit
        (λ earlier spot fine.
        let first = first_fine spot (not (d.is_declared kind (characters d.text spot))) unknown ((nat_le limit (length earlier), too_many) ∷ []) fine in
        leb-false limit (length earlier) (first_fine spot (nat_le limit (length earlier)) too_many [] first.1).0) spots none,
  )

-- points of a sub-route without faults: they are declared, new and within the limit
record LieFits (text : List ℕ) (names : List (List ℕ)) (earlier : List (Spot × Spot)) (lie : Spot × Spot) : Type 0 where
  known : is_among (characters text lie.0) names ≡ true
  new : is_among (characters text lie.0) (map (λ e. characters text e.0) earlier) ≡ false
  room : length earlier < 8

-- what is declared of points, where these are their names
module _ (d : Declared) (names : List (List ℕ)) (are : (name : List ℕ) → d.is_declared Points name ≡ is_among name names) where
  lie_fits : (earlier : List (Spot × Spot)) (lie : Spot × Spot) → f.lie_faults d earlier lie ≡ [] → LieFits d.text names earlier lie
  lie_fits earlier lie none =
      let known = d.is_declared Points (characters d.text lie.0) in
      let again = is_among (characters d.text lie.0) (map (λ (e : Spot × Spot). characters d.text e.0) earlier) in
      let codes = (again, points_twice_in_subroute) ∷ (nat_le 8 (length earlier), too_many) ∷ [] in
      let first = first_fine lie.0 (not known) unknown codes none in
      let second = first_fine lie.0 again points_twice_in_subroute ((nat_le 8 (length earlier), too_many) ∷ []) first.1 in
      record {
        known = is_name d Points names are lie.0 codes none;
        new = second.0;
        room = leb-false 8 (length earlier) (first_fine lie.0 (nat_le 8 (length earlier)) too_many [] second.1).0;
      }

  -- the numbers of these points differ
  lies_differ : (lies : List (Spot × Spot)) → in_order (f.lie_faults d) [] lies ≡ [] → IsDistinct (λ a b. a == b) (map (λ lie. number_in d.text names lie.0) lies)
  lies_differ lies none =
      let judge = f.lie_faults d in
      let name_of = λ (lie : Spot × Spot). characters d.text lie.0 in
      subst (IsDistinct (λ a b. a == b)) (map-map (λ x. position_or_len (bytes_eq x) names) name_of lies)
      (places_differ names (map name_of lies)
      (each_name name_of judge (λ name. is_among name names ≡ true) (λ earlier lie fine. (lie_fits earlier lie fine).known) [] lies none)
      (names_differ name_of judge (λ earlier lie fine. (lie_fits earlier lie fine).new) lies none))

points_well : (text : List ℕ) (tree : SourceText) (earlier : List PointsText) (entry : PointsText) → f.points_faults (declared_in text tree) earlier entry ≡ []
    → 0 < length entry.tracks → IsWellPoints (counts_of (resolved text tree)) (points_row text (declared text tree) tree.free entry)
points_well text tree earlier entry none some =
    let tracks = members_well (declared_in text tree) Track (declared text tree Track) (λ name. refl) 4 entry.tracks
    (no_back (f.wired_name_faults (declared_in text tree) (λ (e : PointsText). e.name) 126 earlier entry)
    (in_order (f.member_faults (declared_in text tree) Track 4) [] entry.tracks) none)
    in
    let same : length (map (number_in text (declared text tree Track)) entry.tracks) ≡ length entry.tracks = simp length-map in
    record { tracks = tracks.0; some = omega (arith, same, some); few = tracks.1 }

route_well : (text : List ℕ) (tree : SourceText) (earlier : List RouteText) (entry : RouteText) → f.route_faults (declared_in text tree) earlier entry ≡ []
    → 0 < length entry.subs → IsWellRoute (counts_of (resolved text tree)) (route_row text (declared text tree) entry)
route_well text tree earlier entry none some =
    let name = f.name_faults (declared_in text tree) (λ (e : RouteText). e.name) 512 earlier entry in
    let signal = f.reference_faults (declared_in text tree) Signal entry.signal in
    let members = in_order (f.member_faults (declared_in text tree) Subroute 32) [] entry.subs in
    let rest = no_back name (signal ++ members) none in
    let subs = members_well (declared_in text tree) Subroute (declared text tree Subroute) (λ name. refl) 32 entry.subs (no_back signal members rest) in
    let same : length (map (number_in text (declared text tree Subroute)) entry.subs) ≡ length entry.subs = simp length-map in
    record {
      signal = number_below (declared_in text tree) Signal (declared text tree Signal) (λ name. refl) entry.signal [] (no_front signal members rest);
      subs = subst (λ n. All (λ sub. sub < n) (map (number_in text (declared text tree Subroute)) entry.subs))
          (same_count (λ (e : SubText). characters text e.name) (sub_row text (declared text tree)) tree.identities.subs) subs.0;
      some = omega (arith, same, some);
      few = subs.1;
    }

sub_well : (text : List ℕ) (tree : SourceText) (earlier : List SubText) (entry : SubText) → f.sub_faults (declared_in text tree) earlier entry ≡ []
    → IsWellSub (counts_of (resolved text tree)) (sub_row text (declared text tree) entry)
sub_well text tree earlier entry none =
    let names = declared text tree Points in
    let judge = f.lie_faults (declared_in text tree) in
    let row = lie_row text (declared text tree) in
    let name = f.name_faults (declared_in text tree) (λ (e : SubText). e.name) 1024 earlier entry in
    let track = f.reference_faults (declared_in text tree) Track entry.track in
    let lies = in_order judge [] entry.lies in
    let rest = no_back name (track ++ lies) none in
    let fine = no_back track lies rest in
    let below = each_fine judge (λ (lie : Spot × Spot). number_in text names lie.0 < length names)
    (λ before lie so. place_below names (characters text lie.0) (lie_fits (declared_in text tree) names (λ name. refl) before lie so).known) [] entry.lies fine
    in
    record {
      track = number_below (declared_in text tree) Track (declared text tree Track) (λ name. refl) entry.track [] (no_front track lies rest);
      points = subst (λ n. All (λ (lie : ℕ × Bool). lie.0 < n) (map row entry.lies)) (same_count (λ (e : PointsText). characters text e.name) (points_row text (declared text tree) tree.free) tree.identities.points)
          (All-map (λ (lie : ℕ × Bool). lie.0 < length names) row entry.lies below);
      few = few_rows row judge 8 (λ before lie so. (lie_fits (declared_in text tree) names (λ name. refl) before lie so).room) entry.lies fine;
      once = subst (IsDistinct (λ a b. a == b)) (sym (map-map (λ (lie : ℕ × Bool). lie.0) row entry.lies)) (lies_differ (declared_in text tree) names (λ name. refl) entry.lies fine);
    }

-- a module without faults
module_well : (text : List ℕ) (tree : SourceText) (earlier : List ModuleText) (entry : ModuleText) → f.module_faults (declared_in text tree) earlier entry ≡ []
    → IsWellModule (resolved text tree) (module_row text (declared text tree) tree.outputs tree.inputs entry)
module_well text tree earlier entry none =
    let names = declared text tree in
    let d = declared_in text tree in
    let kind = module_kind_of (characters text entry.kind) in
    let address = new_address d earlier entry (address_fine d earlier entry none) in
    let pins = pins_row text (names (wired_kind kind)) (pin_count kind) entry.pins in
    record {
      some = address.some;
      few = address.few;
      kind = kind_small (characters text entry.kind);
      pins = row_long text (names (wired_kind kind)) (pin_count kind) entry.pins;
      wired = subst (λ list. All (λ pin. IfSome pin (λ n. n < length list)) pins) (sym (names_are text tree (wired_kind kind)))
          (row_wired d (wired_kind kind) (names (wired_kind kind)) (λ name. refl) (pin_count kind) (f.is_named_by d earlier) entry.pins (pins_fine d earlier entry none));
    }

-- the conditions of points, where each that is spelled and has no faults is well
has_moves : (text : List ℕ) (tree : SourceText) → ((name : List ℕ) (lie : Bool) → IfSome (move_row text (declared text tree) tree.free name lie) (IsWellCond (scope_of_moves (resolved text tree))))
    → (entry : PointsText) → HasWellMoves (scope_of_moves (resolved text tree)) (points_row text (declared text tree) tree.free entry)
has_moves text tree moves entry = record { free_normal = moves (characters text entry.name) false; free_reverse = moves (characters text entry.name) true }

-- so many rows as names are within the limit of the names
few_by_names : {X Y : Type 0} (name : X → List ℕ) (row : X → Y) (xs : List X) (limit : ℕ) → AreNew (map name xs) limit → length (map row xs) ≤ limit
few_by_names name row xs limit new =
    let same : length (map name xs) ≡ length (map row xs) = same_count name row xs in
    omega (arith, same, new.few)

-- the counts are within the limits
good_counts : (text : List ℕ) (tree : SourceText) → f.faults_of text tree ≡ [] → IsWithinLimits (counts_of (resolved text tree))
good_counts text tree none =
    let new = new_of text tree none in
    let names = declared text tree in
    record {
      points = few_by_names (λ (e : PointsText). characters text e.name) (points_row text names tree.free) tree.identities.points 126 (new Points);
      signals = (new Signal).few;
      tracks = (new Track).few;
      routes = few_by_names (λ (e : RouteText). characters text e.name) (route_row text names) tree.identities.routes 512 (new Route);
      subs = few_by_names (λ (e : SubText). characters text e.name) (sub_row text names) tree.identities.subs 1024 (new Subroute);
      flags = (new Flag).few;
      requests = few_by_names (λ (e : Spot × BodyTree). characters text e.0) (request_row text names) tree.requests 1024 (new Request);
    }

-- where there are no faults the data set is well
pub is_well : (text : List ℕ) (tree : SourceText) → IsFormed text tree → f.faults_of text tree ≡ [] → IsWell (resolved text tree)
is_well text tree formed none =
    let d = declared_in text tree in
    let fine = no_faults text tree none in
    let plan = resolved text tree in
    let names = declared text tree in
    let counts = counts_of plan in
    let points = each_fine (f.points_faults d) (λ (e : PointsText). 0 < length e.tracks → IsWellPoints counts (points_row text names tree.free e)) (points_well text tree) [] tree.identities.points fine.points in
    let moves = moves_well text tree fine.moves formed.moves in
    let routes = each_fine (f.route_faults d) (λ (e : RouteText). 0 < length e.subs → IsWellRoute counts (route_row text names e)) (route_well text tree) [] tree.identities.routes fine.routes in
    let requests = each_fine (f.request_faults d) (λ (e : Spot × BodyTree). IsSpelledBody e.1 → IsWellBody (scope_of_decisions plan) (request_row text names e).body) (request_well text tree) [] tree.requests fine.requests in
    let statements = each_fine (f.statement_faults d) (λ (e : StatementText). AreSpelledCommands e.commands → IsSpelledCond e.guard → IsWellStatement (scope_of_decisions plan) (statement_row text names e)) (statement_well text tree) [] tree.statements fine.statements in
    let modules = each_fine (f.module_faults d) (λ (e : ModuleText). IsWellModule plan (module_row text names tree.outputs tree.inputs e)) (module_well text tree) [] tree.identities.modules fine.modules in
    let outputs = outputs_well text tree fine.outputs formed.outputs in
    let inputs = inputs_well text tree fine.inputs formed.inputs in
    let made = module_row text names tree.outputs tree.inputs in
    record {
      size = record {
        limits = good_counts text tree none;
        few_statements = few_rows_where (statement_row text names) (f.statement_faults d) (λ (e : StatementText). AreSpelledCommands e.commands) 4096 (statement_room text tree) tree.statements formed.commands fine.statements;
        few_modules = few_modules d made tree.identities.modules fine.modules;
      };
      names = λ kind. record {
        names = subst (All (IsNameOf kind)) (sym (names_are text tree kind)) (formed.names kind);
        differ = subst (IsDistinct bytes_eq) (sym (names_are text tree kind)) (new_of text tree none kind).differ;
      };
      layout = record {
        points = All-map (IsWellPoints counts) (points_row text names tree.free) tree.identities.points (λ k d within. points k d within (formed.tracks_of_points k d within));
        routes = All-map (IsWellRoute counts) (route_row text names) tree.identities.routes (λ k d within. routes k d within (formed.subs_of_routes k d within));
        subs = All-map (IsWellSub counts) (sub_row text names) tree.identities.subs
            (each_fine (f.sub_faults d) (λ (e : SubText). IsWellSub counts (sub_row text names e)) (sub_well text tree) [] tree.identities.subs fine.subs);
      };
      wiring = record {
        modules = All-map (IsWellModule plan) made tree.identities.modules modules;
        addresses = subst (IsDistinct (λ a b. a == b)) (sym (map-map (λ (row : ModulePlan). row.address) made tree.identities.modules)) (addresses_differ d tree.identities.modules fine.modules);
        wired = λ kind few identity within. wired_once text tree formed none kind few identity (subst (λ list. identity < length list) (names_are text tree (wired_kind kind)) within);
      };
      rules = record {
        moves = All-map (HasWellMoves (scope_of_moves plan)) (points_row text names tree.free) tree.identities.points (λ k d within. has_moves text tree moves (get_or tree.identities.points k d));
        requests = All-map (λ (row : RequestRow). IsWellBody (scope_of_decisions plan) row.body) (request_row text names) tree.requests (λ k d within. requests k d within (formed.bodies k d within));
        statements = All-map (IsWellStatement (scope_of_decisions plan)) (statement_row text names) tree.statements (λ k d within. statements k d within (formed.commands k d within) (formed.guards k d within));
        outputs = All-map (λ (row : ModulePlan). AreWellOutputs (scope_of_conds plan 0) row.outputs) made tree.identities.modules (λ k d within. outputs (characters text (get_or tree.identities.modules k d).address));
        inputs = All-map (λ (row : ModulePlan). IfSome row.input (IsWellBody (scope_of_inputs plan))) made tree.identities.modules (λ k d within. inputs (characters text (get_or tree.identities.modules k d).address));
      };
    }
