-- What the tables know is what the text declares.
use Rattle.std.proofs.Common.{◌≡◌, ℕ, Bool, true, false, List, [], map, refl, ap, sym, subst, ◌∙◌}
use Rattle.std.specs.Prelude.{fold}
use Rattle.ssi_identities.specs.declared.fact.Kind.TheVariants.{Points, Signal, Track, Route, Subroute, Flag, Request}
use Rattle.ssi_names.specs.SourceTexts.{SourceText}
use Rattle.ssi_names.specs.declared.tables.Tables.{Tables}
use Rattle.ssi_names.specs.Declarations.{declared, declared_in, has_rule_in, pins_of, names_at, points_with_rules, addresses_of}
use Rattle.ssi_names.specs.Faults.{faults_by, faults_of}
use Rattle.ssi_names.specs.NameLists.{is_among, with_name, set_of}
use Rattle.ssi_names.specs.Tables.{AreTablesOf, table_of, tables_of_identities, known_by, rules}
use Rattle.ssi_names.proofs.Sets.{in_set}

-- names that were added to none
pub added_names : (before new seen names : List (List ℕ)) → new ≡ fold with_name before seen → before ≡ [] → seen ≡ names → new ≡ set_of names
added_names before new seen names more none same = more ∙ ap (λ old. fold with_name old seen) none ∙ ap set_of same

-- the same for the names of entries
pub added : {X : Type 0} (name_of : X → List ℕ) (before new : List (List ℕ)) (seen xs : List X) → new ≡ fold with_name before (map name_of seen) → before ≡ [] → seen ≡ xs
    → new ≡ set_of (map name_of xs)
added name_of before new seen xs more none same = added_names before new (map name_of seen) (map name_of xs) more none (ap (map name_of) same)

-- tables of the files of identities with the names of requests, and with the points that have rules for each lie
abbrev with_rules : Tables → List (List ℕ) → List (List ℕ) → List (List ℕ) → Tables
with_rules tables requests normal reverse = record {
  points = tables.points;
  signals = tables.signals;
  tracks = tables.tracks;
  routes = tables.routes;
  subs = tables.subs;
  flags = tables.flags;
  requests = requests;
  wired = tables.wired;
  addresses = tables.addresses;
  free_normal = normal;
  free_reverse = reverse;
}

by_files : (text : List ℕ) (tree : SourceText) (requests normal reverse : List (List ℕ)) → requests ≡ set_of (declared text tree Request)
    → normal ≡ set_of (points_with_rules text tree.free false) → reverse ≡ set_of (points_with_rules text tree.free true)
    → AreTablesOf text tree (with_rules (tables_of_identities text tree.identities) requests normal reverse)
by_files text tree requests normal reverse same for_normal for_reverse = record {
  declared_names = λ kind. elim kind as (λ k. table_of (with_rules (tables_of_identities text tree.identities) requests normal reverse) k ≡ set_of (declared text tree k))
      [ Points ↦ refl | Signal ↦ refl | Track ↦ refl | Route ↦ refl | Subroute ↦ refl | Flag ↦ refl | Request ↦ same ];
  wired_names = refl;
  addresses = refl;
  normal = for_normal;
  reverse = for_reverse;
}

-- these are the tables of the tree, which is seen with these files
pub tables_are : (text : List ℕ) (seen tree : SourceText) (tables : Tables) (requests normal reverse : List (List ℕ)) → seen ≡ tree → tables ≡ tables_of_identities text seen.identities
    → requests ≡ set_of (declared text seen Request) → normal ≡ set_of (points_with_rules text seen.free false) → reverse ≡ set_of (points_with_rules text seen.free true)
    → AreTablesOf text tree (with_rules tables requests normal reverse)
tables_are text seen tree tables requests normal reverse same are others for_normal for_reverse =
    subst (λ t. AreTablesOf text t (with_rules tables requests normal reverse)) same
    (subst (λ (t : Tables). AreTablesOf text seen (with_rules t requests normal reverse)) (sym are) (by_files text seen requests normal reverse others for_normal for_reverse))

-- a table has a name where the list has it
of_set : (names table : List (List ℕ)) (name : List ℕ) → table ≡ set_of names → is_among name table ≡ is_among name names
of_set names table name is = ap (is_among name) is ∙ in_set names name

-- points have a rule for a lie by the tables where they have one by the list
of_rules : (text : List ℕ) (tree : SourceText) (tables : Tables) → AreTablesOf text tree tables → (name : List ℕ) (lie : Bool) → rules tables name lie ≡ has_rule_in text tree name lie
of_rules text tree tables are name true = of_set (points_with_rules text tree.free true) tables.free_reverse name are.reverse
of_rules text tree tables are name false = of_set (points_with_rules text tree.free false) tables.free_normal name are.normal

-- what the tables know is what the text declares
declared_is : (text : List ℕ) (tree : SourceText) (tables : Tables) → AreTablesOf text tree tables → known_by text tables ≡ declared_in text tree
declared_is text tree tables are =
    (λ j. record {
      text = text;
      is_declared = λ kind name. of_set (declared text tree kind) (table_of tables kind) name (are.declared_names kind) j;
      is_wired = λ name. of_set (names_at text (pins_of tree.identities.modules)) tables.wired name are.wired_names j;
      has_rule = λ name lie. of_rules text tree tables are name lie j;
      has_module = λ address. of_set (addresses_of text tree.identities.modules) tables.addresses address are.addresses j;
    })

-- so the faults by the tables are those by the lists
pub same_faults : (text : List ℕ) (tree : SourceText) (tables : Tables) → AreTablesOf text tree tables → faults_by (known_by text tables) tree ≡ faults_of text tree
same_faults text tree tables are = ap (λ d. faults_by d tree) (declared_is text tree tables are)
