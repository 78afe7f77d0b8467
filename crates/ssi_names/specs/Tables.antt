-- What the tables of names know.
use Rattle.std.specs.Prelude.{◌≡◌, ◌<◌, ℕ, Bool, true, false, not, ◌||◌, if◌then◌else◌, List, [], map, length}
use Rattle.ssi_identities.specs.declared.fact.Kind.{Kind}
use Rattle.ssi_identities.specs.declared.fact.Kind.TheVariants.{Points, Signal, Track, Route, Subroute, Flag, Request}
use Rattle.ssi_names.specs.declared.tables.Tables.{Tables}
use Rattle.ssi_names.specs.SourceTexts.{SourceText}
use Rattle.ssi_names.specs.Declarations.{Declared, declared, pins_of, names_at, addresses_of, points_with_rules}
use Rattle.ssi_names.specs.NameLists.{is_among, set_of}
use Rattle.ssi_names.specs.Texts.{characters}
use Rattle.ssi_terms.specs.Trees.{IdentityText}

-- the names of a kind
abbrev pub table_of : Tables → Kind → List (List ℕ)
table_of tables Points = tables.points
table_of tables Signal = tables.signals
table_of tables Track = tables.tracks
table_of tables Route = tables.routes
table_of tables Subroute = tables.subs
table_of tables Flag = tables.flags
table_of tables Request = tables.requests

-- whether a name of a kind is in its table
abbrev pub knows : Tables → Kind → List ℕ → Bool
knows tables kind name = is_among name (table_of tables kind)

-- whether a name is in the table of those that modules name
abbrev pub wires : Tables → List ℕ → Bool
wires tables name = is_among name tables.wired

-- whether points are in the table of those for which a rule says when they are free to go to a lie
abbrev pub rules : Tables → List ℕ → Bool → Bool
rules tables name lie = is_among name (if lie then tables.free_reverse else tables.free_normal)

-- whether an address is in the table of those that modules have
abbrev pub has_module : Tables → List ℕ → Bool
has_module tables address = is_among address tables.addresses

-- what the tables of a text know
abbrev pub known_by : List ℕ → Tables → Declared
known_by text tables = record {
  text = text;
  is_declared = knows tables;
  is_wired = wires tables;
  has_rule = rules tables;
  has_module = has_module tables;
}

-- the same where modules have to name what is declared, or where they don't
abbrev pub asked_of : Bool → Declared → Declared
asked_of wired known = record known { is_wired = λ name. not wired || known.is_wired name }

-- tables with no names
abbrev pub no_tables : Tables
no_tables = record {
  points = [];
  signals = [];
  tracks = [];
  routes = [];
  subs = [];
  flags = [];
  requests = [];
  wired = [];
  addresses = [];
  free_normal = [];
  free_reverse = [];
}

-- tables of the names that the files of identities declare, and of those at pins
abbrev pub tables_of_identities : List ℕ → IdentityText → Tables
tables_of_identities text tree = record {
  points = set_of (map (λ entry. characters text entry.name) tree.points);
  signals = set_of (map (λ spot. characters text spot) tree.signals);
  tracks = set_of (map (λ spot. characters text spot) tree.tracks);
  routes = set_of (map (λ entry. characters text entry.name) tree.routes);
  subs = set_of (map (λ entry. characters text entry.name) tree.subs);
  flags = set_of (map (λ spot. characters text spot) tree.flags);
  requests = [];
  wired = set_of (names_at text (pins_of tree.modules));
  addresses = set_of (addresses_of text tree.modules);
  free_normal = [];
  free_reverse = [];
}

-- the tables have each declared and each wired name once, each address of a module, and the points with a rule for each lie
pub record AreTablesOf (text : List ℕ) (tree : SourceText) (tables : Tables) : Type 0 where
  pub declared_names : (kind : Kind) → table_of tables kind ≡ set_of (declared text tree kind)
  pub wired_names : tables.wired ≡ set_of (names_at text (pins_of tree.identities.modules))
  pub addresses : tables.addresses ≡ set_of (addresses_of text tree.identities.modules)
  pub normal : tables.free_normal ≡ set_of (points_with_rules text tree.free false)
  pub reverse : tables.free_reverse ≡ set_of (points_with_rules text tree.free true)

-- so few names that a number of 16 bits says the place of each
pub record IsSmall (tables : Tables) : Type 0 where
  pub points : length tables.points < 65536
  pub signals : length tables.signals < 65536
  pub tracks : length tables.tracks < 65536
  pub routes : length tables.routes < 65536
  pub subs : length tables.subs < 65536
  pub flags : length tables.flags < 65536
  pub requests : length tables.requests < 65536
