-- What a source declares and wires.
use Rattle.std.specs.Prelude.{ℕ, Bool, codes, List, map}
use Rattle.std.specs.List.{filter, flat_map}
use Rattle.std.specs.Str.{bytes_eq}
use Rattle.ssi_identities.specs.declared.fact.Kind.{Kind}
use Rattle.ssi_identities.specs.declared.fact.Kind.TheVariants.{Points, Signal, Track, Route, Subroute, Flag, Request}
use Rattle.ssi_terms.specs.declared.tree.Spot.{Spot}
use Rattle.ssi_identities.specs.Values.{is_as_wanted}
use Rattle.ssi_pfm.specs.Rules.{RulesText}
use Rattle.ssi_terms.specs.declared.tree.CondTree.{CondTree}
use Rattle.ssi_terms.specs.Trees.{ModuleText}
use Rattle.ssi_names.specs.SourceTexts.{SourceText}
use Rattle.ssi_names.specs.NameLists.{is_among}
use Rattle.ssi_names.specs.Texts.{characters}

-- each name with its pin, of these entries of TFM
abbrev pub pins_of : List ModuleText → List (Spot × Spot)
pins_of modules = flat_map (λ entry. entry.pins) modules

-- the names at pins
abbrev pub names_at : List ℕ → List (Spot × Spot) → List (List ℕ)
names_at text pins = map (λ pin. characters text pin.0) pins

-- the names that entries declare, of each kind, in written order
abbrev pub declared : List ℕ → SourceText → Kind → List (List ℕ)
declared text tree Points = map (λ entry. characters text entry.name) tree.identities.points
declared text tree Signal = map (λ spot. characters text spot) tree.identities.signals
declared text tree Track = map (λ spot. characters text spot) tree.identities.tracks
declared text tree Route = map (λ entry. characters text entry.name) tree.identities.routes
declared text tree Subroute = map (λ entry. characters text entry.name) tree.identities.subs
declared text tree Flag = map (λ spot. characters text spot) tree.identities.flags
declared text tree Request = map (λ entry. characters text entry.0) tree.requests

-- whether an entry declares the name, anywhere in the text
abbrev pub is_declared_in : List ℕ → SourceText → Kind → List ℕ → Bool
is_declared_in text tree kind name = is_among name (declared text tree kind)

-- whether an entry of TFM names it, anywhere in the text
abbrev pub is_wired_in : List ℕ → SourceText → List ℕ → Bool
is_wired_in text tree name = is_among name (names_at text (pins_of tree.identities.modules))

-- whether the word for a lie says reverse
abbrev pub is_reverse : List ℕ → Spot → Bool
is_reverse text word = bytes_eq (characters text word) (codes "cr")

-- whether an entry of PFM says when points are free to go to a lie, true for reverse
abbrev pub is_for_lie : List ℕ → Bool → Spot × Spot × CondTree → Bool
is_for_lie text lie rule = is_as_wanted (is_reverse text rule.1) lie

-- the points of which entries of PFM say when they are free to go to a lie
abbrev pub points_with_rules : List ℕ → RulesText → Bool → List (List ℕ)
points_with_rules text rules lie = map (λ rule. characters text rule.0) (filter (is_for_lie text lie) rules)

-- whether an entry of PFM says when points are free to go to a lie
abbrev pub has_rule_in : List ℕ → SourceText → List ℕ → Bool → Bool
has_rule_in text tree name lie = is_among name (points_with_rules text tree.free lie)

-- the addresses of entries of TFM, as they are written; a number is written in one way
abbrev pub addresses_of : List ℕ → List ModuleText → List (List ℕ)
addresses_of text modules = map (λ entry. characters text entry.address) modules

-- whether an entry of TFM has the address
abbrev pub has_module_in : List ℕ → SourceText → List ℕ → Bool
has_module_in text tree address = is_among address (addresses_of text tree.identities.modules)

-- what is known of a source where its entries are judged: its text; whether a name of a kind is declared; whether a module names
-- it; whether a rule says when points are free to go to a lie, true for reverse; and whether a module has an address
pub record Declared : Type 0 where
  pub text : List ℕ
  pub is_declared : Kind → List ℕ → Bool
  pub is_wired : List ℕ → Bool
  pub has_rule : List ℕ → Bool → Bool
  pub has_module : List ℕ → Bool

-- what the text with this tree declares
abbrev pub declared_in : List ℕ → SourceText → Declared
declared_in text tree = record {
  text = text;
  is_declared = is_declared_in text tree;
  is_wired = is_wired_in text tree;
  has_rule = has_rule_in text tree;
  has_module = has_module_in text tree;
}
