-- What holds of a text without faults.
use Rattle.std.proofs.Common.{◌≡◌, ℕ, ◌+◌, ◌<◌, ◌≤◌, Bool, true, false, not, List, [], ◌∷◌, ◌++◌, map, length, refl, ap, sym, subst, ◌∙◌, arith, append_assoc}
use Rattle.std.specs.Prelude.{All, fold, nat_le}
use Rattle.std.specs.List.{IsDistinct}
use Rattle.std.specs.Str.{bytes_eq}
use Rattle.ssi_names.proofs.Distinct.{NoneAmong, with_last}
use Rattle.std.proofs.lemmas.Bool.Decides.{nat_tests}
use Rattle.std.proofs.lemmas.List.Elements.{All-nil, All-cons}
use Rattle.std.proofs.lemmas.List.{append-nil, length-append, length-map, map-append}
use Rattle.ssi_identities.specs.declared.fact.Kind.{Kind}
use Rattle.ssi_identities.specs.declared.fact.Kind.TheVariants.{Points, Signal, Track, Route, Subroute, Flag, Request}
use Rattle.ssi_terms.specs.declared.tree.Spot.{Spot}
use Rattle.ssi_terms.specs.declared.tree.BodyTree.{BodyTree}
use Rattle.ssi_terms.specs.Trees.{PointsText, RouteText, SubText}
use Rattle.ssi_names.specs.SourceTexts.{SourceText}
use Rattle.ssi_names.specs.Codes.{twice, block_twice, too_many, not_wired}
use Rattle.ssi_names.specs.declared.fault.Fault.{Fault}
use Rattle.ssi_names.specs.declared.rule_file.RuleFile.TheVariants.{Requests}
use Rattle.ssi_names.specs.declared.tables.Tables.{Tables}
use Rattle.ssi_names.specs.Declarations.{Declared, declared, declared_in}
use Rattle.ssi_names.specs.Faults as f
use Rattle.ssi_names.specs.NameLists.{is_among, with_name, set_of}
use Rattle.ssi_names.specs.Occurrences.{at, in_order}
use Rattle.ssi_identities.specs.Facts.{IsWithinLimits}
use Rattle.ssi_names.specs.Bodies.{body_faults}
use Rattle.ssi_names.specs.Rows.{counts_by, plan_by, resolved}
use Rattle.ssi_names.specs.Tables.{AreTablesOf, IsSmall, table_of}
use Rattle.ssi_names.specs.Texts.{characters}

-- where two lists of faults have none, the first has none
pub no_front : (a b : List Fault) → a ++ b ≡ [] → a ≡ []
no_front [] b none = refl
no_front (x ∷ a) b none = absurd cc

-- nor has the second
pub no_back : (a b : List Fault) → a ++ b ≡ [] → b ≡ []
no_back [] b none = none
no_back (x ∷ a) b none = absurd cc

-- the first code of a line doesn't apply, nor do those behind it
pub first_fine : (spot : Spot) (test : Bool) (code : ℕ) (codes : List (Bool × ℕ)) → at spot ((test, code) ∷ codes) ≡ [] → (test ≡ false) × (at spot codes ≡ [])
first_fine spot true code codes none = absurd cc
first_fine spot false code codes none = (refl, none)

-- each entry of a list without faults
pub each_fine : {X : Type 0} (judge : List X → X → List Fault) (P : X → Type 0) → ((earlier : List X) (x : X) → judge earlier x ≡ [] → P x) → (earlier xs : List X) → in_order judge earlier xs ≡ []
    → All P xs
each_fine judge P fine earlier [] none = All-nil P
each_fine judge P fine earlier (x ∷ xs) none =
    All-cons P x xs (fine earlier x (no_front (judge earlier x) (in_order judge (earlier ++ x ∷ []) xs) none))
    (each_fine judge P fine (earlier ++ x ∷ []) xs (no_back (judge earlier x) (in_order judge (earlier ++ x ∷ []) xs) none))

-- an entry is new, and there is room for it
abbrev Fits : {X : Type 0} → (X → List ℕ) → ℕ → List X → X → Type 0
Fits name_of limit earlier x = (is_among (name_of x) (map name_of earlier) ≡ false) × (length earlier < limit)

-- a new name is appended
with_new : (names : List (List ℕ)) (name : List ℕ) → is_among name names ≡ false → with_name names name ≡ names ++ name ∷ []
with_new names name new = rw new refl

-- of entries that fit the set of the names is the list of the names, and they are within the limit
all_new : {X : Type 0} (name_of : X → List ℕ) (limit : ℕ) (judge : List X → X → List Fault) → ((earlier : List X) (x : X) → judge earlier x ≡ [] → Fits name_of limit earlier x)
    → (earlier xs : List X) → length earlier ≤ limit → in_order judge earlier xs ≡ []
    → (fold with_name (map name_of earlier) (map name_of xs) ≡ map name_of earlier ++ map name_of xs) × (length earlier + length xs ≤ limit)
all_new name_of limit judge fits earlier [] few none = (sym (append-nil (map name_of earlier)), omega (arith, few))
all_new name_of limit judge fits earlier (x ∷ xs) few none =
    let here = fits earlier x (no_front (judge earlier x) (in_order judge (earlier ++ x ∷ []) xs) none) in
    let more : length (earlier ++ x ∷ []) ≡ length earlier + 1 = length-append earlier (x ∷ []) in
    let rest = all_new name_of limit judge fits (earlier ++ x ∷ []) xs (omega (arith, more, here.1)) (no_back (judge earlier x) (in_order judge (earlier ++ x ∷ []) xs) none) in
    let named : map name_of (earlier ++ x ∷ []) ≡ map name_of earlier ++ name_of x ∷ [] = map-append name_of earlier (x ∷ []) in (
      ap (λ names. fold with_name names (map name_of xs)) (with_new (map name_of earlier) (name_of x) here.0 ∙ sym named) ∙ rest.0 ∙ ap (λ names. names ++ map name_of xs) named
          ∙ append_assoc (map name_of earlier) (name_of x ∷ []) (map name_of xs),
      omega (arith, more, rest.1),
    )

-- none of the names is among those of earlier entries, and they differ
all_differ : {X : Type 0} (name_of : X → List ℕ) (judge : List X → X → List Fault) → ((earlier : List X) (x : X) → judge earlier x ≡ [] → is_among (name_of x) (map name_of earlier) ≡ false)
    → (earlier xs : List X) → in_order judge earlier xs ≡ [] → NoneAmong (map name_of earlier) (map name_of xs) × IsDistinct bytes_eq (map name_of xs)
unfolding IsDistinct
all_differ name_of judge new earlier [] none = (tt, tt)
all_differ name_of judge new earlier (x ∷ xs) none =
    let here = new earlier x (no_front (judge earlier x) (in_order judge (earlier ++ x ∷ []) xs) none) in
    let rest = all_differ name_of judge new (earlier ++ x ∷ []) xs (no_back (judge earlier x) (in_order judge (earlier ++ x ∷ []) xs) none) in
    let parts = with_last (map name_of earlier) (map name_of xs) (name_of x) (subst (λ names. NoneAmong names (map name_of xs)) (map-append name_of earlier (x ∷ [])) rest.0) in
    ((here, parts.0), (parts.1, rest.1))

-- entries that are new differ in their names
pub names_differ : {X : Type 0} (name_of : X → List ℕ) (judge : List X → X → List Fault) → ((earlier : List X) (x : X) → judge earlier x ≡ [] → is_among (name_of x) (map name_of earlier) ≡ false)
    → (xs : List X) → in_order judge [] xs ≡ [] → IsDistinct bytes_eq (map name_of xs)
names_differ name_of judge new xs none = (all_differ name_of judge new [] xs none).1

-- the names of entries: each stands once, they differ, and they are within the limit
pub record AreNew (names : List (List ℕ)) (limit : ℕ) : Type 0 where
  pub all : set_of names ≡ names
  pub differ : IsDistinct bytes_eq names
  pub few : length names ≤ limit

-- the names of entries without faults are new
new_names : {X : Type 0} (name_of : X → List ℕ) (limit : ℕ) (judge : List X → X → List Fault) → ((earlier : List X) (x : X) → judge earlier x ≡ [] → Fits name_of limit earlier x) → (xs : List X)
    → in_order judge [] xs ≡ [] → AreNew (map name_of xs) limit
new_names name_of limit judge fits xs none =
    let both = all_new name_of limit judge fits [] xs (omega arith) none in
    let same : length (map name_of xs) ≡ length xs = simp length-map in
    record { all = both.0; differ = names_differ name_of judge (λ earlier x fine. (fits earlier x fine).0) xs none; few = omega (arith, both.1, same) }

-- the first two codes of a declaration don't apply
declares : (spot : Spot) (again : Bool) (code limit count : ℕ) (codes : List (Bool × ℕ)) → at spot ((again, code) ∷ (nat_le limit count, too_many) ∷ codes) ≡ [] → (again ≡ false) × (count < limit)
declares spot again code limit count codes none =
    let first = first_fine spot again code ((nat_le limit count, too_many) ∷ codes) none in
    let second : nat_le limit count ≡ false = (first_fine spot (nat_le limit count) too_many codes first.1).0 in
    (first.0, grind (arith, nat_tests))

-- a wired name without faults fits
wired_fits : {X : Type 0} (d : Declared) (name_of : X → Spot) (limit : ℕ) (earlier : List X) (x : X) → f.wired_name_faults d name_of limit earlier x ≡ []
    → Fits (λ e. characters d.text (name_of e)) limit earlier x
wired_fits d name_of limit earlier x none =
    declares (name_of x) (is_among (characters d.text (name_of x)) (map (λ e. characters d.text (name_of e)) earlier)) twice limit (length earlier)
    ((not (d.is_wired (characters d.text (name_of x))), not_wired) ∷ []) none

-- another name without faults fits
name_fits : {X : Type 0} (d : Declared) (name_of : X → Spot) (limit : ℕ) (earlier : List X) (x : X) → f.name_faults d name_of limit earlier x ≡ []
    → Fits (λ e. characters d.text (name_of e)) limit earlier x
name_fits d name_of limit earlier x none =
    declares (name_of x) (is_among (characters d.text (name_of x)) (map (λ e. characters d.text (name_of e)) earlier)) twice limit (length earlier) [] none

-- the files without faults
pub record NoFaults (text : List ℕ) (tree : SourceText) : Type 0 where
  pub points : in_order (f.points_faults (declared_in text tree)) [] tree.identities.points ≡ []
  pub signals : in_order (f.signal_faults (declared_in text tree)) [] tree.identities.signals ≡ []
  pub tracks : in_order (f.track_faults (declared_in text tree)) [] tree.identities.tracks ≡ []
  pub routes : in_order (f.route_faults (declared_in text tree)) [] tree.identities.routes ≡ []
  pub subs : in_order (f.sub_faults (declared_in text tree)) [] tree.identities.subs ≡ []
  pub flags : in_order (f.flag_faults (declared_in text tree)) [] tree.identities.flags ≡ []
  pub modules : in_order (f.module_faults (declared_in text tree)) [] tree.identities.modules ≡ []
  pub requests : in_order (f.request_faults (declared_in text tree)) [] tree.requests ≡ []
  pub moves : in_order (f.move_faults (declared_in text tree)) [] tree.free ≡ []
  pub statements : in_order (f.statement_faults (declared_in text tree)) [] tree.statements ≡ []
  pub outputs : in_order (f.output_faults (declared_in text tree)) [] tree.outputs ≡ []
  pub inputs : in_order (f.input_faults (declared_in text tree)) [] tree.inputs ≡ []

-- where the faults of five files are none, those of each are none
five : (a b c d e : List Fault) → a ++ b ++ c ++ d ++ e ≡ [] → (a ≡ []) × (b ≡ []) × (c ≡ []) × (d ≡ []) × (e ≡ [])
five a b c d e none =
    let four = no_front (a ++ b ++ c ++ d) e none in
    let three = no_front (a ++ b ++ c) d four in
    let two = no_front (a ++ b) c three in
    (no_front a b two, no_back a b two, no_back (a ++ b) c three, no_back (a ++ b ++ c) d four, no_back (a ++ b ++ c ++ d) e none)

-- and where those of seven are
seven : (a b c d e g h : List Fault) → a ++ b ++ c ++ d ++ e ++ g ++ h ≡ [] → (a ≡ []) × (b ≡ []) × (c ≡ []) × (d ≡ []) × (e ≡ []) × (g ≡ []) × (h ≡ [])
seven a b c d e g h none =
    let six = no_front (a ++ b ++ c ++ d ++ e ++ g) h none in
    let parts = five a b c d e (no_front (a ++ b ++ c ++ d ++ e) g six) in
    (parts.0, parts.1, parts.2, parts.3, parts.4, no_back (a ++ b ++ c ++ d ++ e) g six, no_back (a ++ b ++ c ++ d ++ e ++ g) h none)

-- where there are no faults, no file has one
pub no_faults : (text : List ℕ) (tree : SourceText) → f.faults_of text tree ≡ [] → NoFaults text tree
no_faults text tree none =
    let identities = f.identity_faults (declared_in text tree) tree.identities in
    let rules = f.rule_faults (declared_in text tree) tree in
    let first = seven _ _ _ _ _ _ _ (no_front identities rules none) in
    let second = five _ _ _ _ _ (no_back identities rules none) in
    record {
      points = first.0;
      signals = first.1;
      tracks = first.2;
      routes = first.3;
      subs = first.4;
      flags = first.5;
      modules = first.6;
      requests = second.0;
      moves = second.1;
      statements = second.2;
      outputs = second.3;
      inputs = second.4;
    }

-- those of points
new_points : (text : List ℕ) (tree : SourceText) → NoFaults text tree → AreNew (declared text tree Points) 126
new_points text tree fine =
    new_names (λ (e : PointsText). characters text e.name) 126 (f.points_faults (declared_in text tree))
    (λ earlier x none. wired_fits (declared_in text tree) (λ (e : PointsText). e.name) 126 earlier x
    (no_front (f.wired_name_faults (declared_in text tree) (λ (e : PointsText). e.name) 126 earlier x) (in_order (f.member_faults (declared_in text tree) Track 4) [] x.tracks) none)) tree.identities.points fine.points

-- those of routes
new_routes : (text : List ℕ) (tree : SourceText) → NoFaults text tree → AreNew (declared text tree Route) 512
new_routes text tree fine =
    new_names (λ (e : RouteText). characters text e.name) 512 (f.route_faults (declared_in text tree))
    (λ earlier x none.
    let name = f.name_faults (declared_in text tree) (λ (e : RouteText). e.name) 512 earlier x in
    let signal = f.reference_faults (declared_in text tree) Signal x.signal in
    name_fits (declared_in text tree) (λ (e : RouteText). e.name) 512 earlier x
    (no_front name (signal ++ in_order (f.member_faults (declared_in text tree) Subroute 32) [] x.subs) none)) tree.identities.routes fine.routes

-- those of sub-routes
new_subs : (text : List ℕ) (tree : SourceText) → NoFaults text tree → AreNew (declared text tree Subroute) 1024
new_subs text tree fine =
    new_names (λ (e : SubText). characters text e.name) 1024 (f.sub_faults (declared_in text tree))
    (λ earlier x none.
    let name = f.name_faults (declared_in text tree) (λ (e : SubText). e.name) 1024 earlier x in
    let track = f.reference_faults (declared_in text tree) Track x.track in
    name_fits (declared_in text tree) (λ (e : SubText). e.name) 1024 earlier x
    (no_front name (track ++ in_order (f.lie_faults (declared_in text tree)) [] x.lies) none)) tree.identities.subs fine.subs

-- those of requests
new_requests : (text : List ℕ) (tree : SourceText) → NoFaults text tree → AreNew (declared text tree Request) 1024
new_requests text tree fine =
    new_names (λ (e : Spot × BodyTree). characters text e.0) 1024 (f.request_faults (declared_in text tree))
    (λ earlier x none.
    declares x.0 (is_among (characters text x.0) (map (λ e. characters text e.0) earlier)) block_twice 1024 (length earlier) []
    (no_front (f.request_name_faults (declared_in text tree) earlier x.0) (body_faults (declared_in text tree) Requests x.1) none)) tree.requests fine.requests

-- the limit of a kind
abbrev pub limit_of : Kind → ℕ
limit_of Points = 126
limit_of Signal = 504
limit_of Track = 504
limit_of Route = 512
limit_of Subroute = 1024
limit_of Flag = 512
limit_of Request = 1024

-- without faults the names of each kind are new
all_kinds : (text : List ℕ) (tree : SourceText) → NoFaults text tree → (kind : Kind) → AreNew (declared text tree kind) (limit_of kind)
unfolding IsDistinct
all_kinds text tree fine Points = new_points text tree fine
all_kinds text tree fine Signal =
    new_names (λ (e : Spot). characters text e) 504 (f.signal_faults (declared_in text tree)) (wired_fits (declared_in text tree) (λ (e : Spot). e) 504) tree.identities.signals fine.signals
all_kinds text tree fine Track =
    new_names (λ (e : Spot). characters text e) 504 (f.track_faults (declared_in text tree)) (wired_fits (declared_in text tree) (λ (e : Spot). e) 504) tree.identities.tracks fine.tracks
all_kinds text tree fine Route = new_routes text tree fine
all_kinds text tree fine Subroute = new_subs text tree fine
all_kinds text tree fine Flag =
    new_names (λ (e : Spot). characters text e) 512 (f.flag_faults (declared_in text tree)) (name_fits (declared_in text tree) (λ (e : Spot). e) 512) tree.identities.flags fine.flags
all_kinds text tree fine Request = new_requests text tree fine

-- no limit is past 1024
few_of_each : (kind : Kind) → limit_of kind ≤ 1024
few_of_each kind = elim kind as (λ k. limit_of k ≤ 1024)
    [ Points ↦ omega arith | Signal ↦ omega arith | Track ↦ omega arith | Route ↦ omega arith | Subroute ↦ omega arith | Flag ↦ omega arith | Request ↦ omega arith ]

-- where there are no faults the names of each kind are new
pub new_of : (text : List ℕ) (tree : SourceText) → f.faults_of text tree ≡ [] → (kind : Kind) → AreNew (declared text tree kind) (limit_of kind)
new_of text tree none = all_kinds text tree (no_faults text tree none)

-- without faults a table is the list of the names that are declared
table_is : (text : List ℕ) (tree : SourceText) (tables : Tables) → AreTablesOf text tree tables → f.faults_of text tree ≡ [] → (kind : Kind) → table_of tables kind ≡ declared text tree kind
table_is text tree tables are none kind = are.declared_names kind ∙ (new_of text tree none kind).all

-- so the data set by the tables is that by the lists
pub same_plan : (text : List ℕ) (tree : SourceText) (tables : Tables) → AreTablesOf text tree tables → f.faults_of text tree ≡ [] → plan_by text (table_of tables) tree ≡ resolved text tree
same_plan text tree tables are none =
    let all : table_of tables ≡ declared text tree = (λ j kind. table_is text tree tables are none kind j) in
    ap (λ names. plan_by text names tree) all

-- a number of 16 bits says the place of each name of a kind
small_table : (text : List ℕ) (tree : SourceText) (tables : Tables) → AreTablesOf text tree tables → f.faults_of text tree ≡ [] → (kind : Kind) → length (table_of tables kind) < 65536
small_table text tree tables are none kind =
    let same : length (table_of tables kind) ≡ length (declared text tree kind) = ap length (table_is text tree tables are none kind) in
    omega (arith, same, (new_of text tree none kind).few, few_of_each kind)

-- and the numbers of names fit
pub small_tables : (text : List ℕ) (tree : SourceText) (tables : Tables) → AreTablesOf text tree tables → f.faults_of text tree ≡ [] → IsSmall tables
small_tables text tree tables are none = record {
  points = small_table text tree tables are none Points;
  signals = small_table text tree tables are none Signal;
  tracks = small_table text tree tables are none Track;
  routes = small_table text tree tables are none Route;
  subs = small_table text tree tables are none Subroute;
  flags = small_table text tree tables are none Flag;
  requests = small_table text tree tables are none Request;
}

-- a table is within the limit of its kind
few_in_table : (text : List ℕ) (tree : SourceText) (tables : Tables) → AreTablesOf text tree tables → f.faults_of text tree ≡ [] → (kind : Kind) → length (table_of tables kind) ≤ limit_of kind
few_in_table text tree tables are none kind =
    let same : length (table_of tables kind) ≡ length (declared text tree kind) = ap length (table_is text tree tables are none kind) in
    omega (arith, same, (new_of text tree none kind).few)

-- so the counts are within the limits
pub tables_within_limits : (text : List ℕ) (tree : SourceText) (tables : Tables) → AreTablesOf text tree tables → f.faults_of text tree ≡ [] → IsWithinLimits (counts_by (table_of tables))
tables_within_limits text tree tables are none = record {
  points = few_in_table text tree tables are none Points;
  signals = few_in_table text tree tables are none Signal;
  tracks = few_in_table text tree tables are none Track;
  routes = few_in_table text tree tables are none Route;
  subs = few_in_table text tree tables are none Subroute;
  flags = few_in_table text tree tables are none Flag;
  requests = few_in_table text tree tables are none Request;
}
