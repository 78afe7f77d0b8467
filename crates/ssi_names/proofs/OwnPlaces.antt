-- In a source without faults, points and modules stand in their files at the places that the tables tell.
use Rattle.std.proofs.Common.{◌≡◌, ℕ, ◌||◌, Bool, true, false, List, [], ◌∷◌, ◌++◌, map, refl, ap, sym, ◌∙◌, append_assoc, arith}
use Rattle.std.specs.Prelude.{fold, ◌==◌, if◌then◌else◌}
use Rattle.std.specs.List.{AllByRecursion, IsDistinct}
use Rattle.std.specs.Str.{bytes_eq}
use Rattle.std.proofs.lemmas.Bool.Decides.{nat_tests}
use Rattle.std.proofs.lemmas.List.{append-nil}
use Rattle.std.proofs.lemmas.List.Folds.{list_any-append}
use Rattle.std.proofs.lemmas.Slice.Eq.{bytes_eq-Decides}
use Rattle.ssi_identities.specs.declared.fact.Kind.TheVariants.{Points}
use Rattle.ssi_terms.specs.declared.tree.Spot.{Spot}
use Rattle.ssi_terms.specs.Trees.{ModuleText}
use Rattle.ssi_names.specs.declared.tables.Tables.{Tables}
use Rattle.ssi_names.specs.Declarations.{addresses_of, declared_in}
use Rattle.ssi_names.specs.Faults.{faults_of, module_faults}
use Rattle.ssi_names.specs.NameLists.{is_among, with_name, set_of}
use Rattle.ssi_names.specs.Placing.{ArePlaces}
use Rattle.ssi_names.specs.SourceTexts.{SourceText}
use Rattle.ssi_names.specs.Tables.{AreTablesOf}
use Rattle.ssi_names.specs.Texts.{characters, number, is_number_among}
use Rattle.ssi_lexer.specs.Lexemes.{value_of_digits}
use Rattle.ssi_names.proofs.Distinct.{NoneAmong, both_false, other_way}
use Rattle.ssi_names.proofs.Fine.{new_of, names_differ, no_faults}
use Rattle.ssi_names.proofs.Sets.{or_false}
use Rattle.ssi_names.proofs.WellModules.{new_address, address_fine}

-- ---- names that differ are their own set

-- names that differ from those before and from the next one differ from all of these
none_with_last : (before names : List (List ℕ)) (last : List ℕ) → NoneAmong before names → AllByRecursion (λ name. bytes_eq last name ≡ false) names → NoneAmong (before ++ last ∷ []) names
none_with_last before [] last none differ = tt
none_with_last before (name ∷ names) last none differ = (
  list_any-append (bytes_eq name) before (last ∷ []) ∙ ap (λ b. is_among name before || b) (or_false (bytes_eq name last)) ∙ ap (λ b. b || bytes_eq name last) none.0 ∙ other_way last name differ.0,
  none_with_last before names last none.1 differ.1,
)

all_added : (before names : List (List ℕ)) → NoneAmong before names → IsDistinct bytes_eq names → fold with_name before names ≡ before ++ names
unfolding IsDistinct
all_added before [] none differ = sym (append-nil before)
all_added before (name ∷ names) none differ =
    ap (λ b. fold with_name (if b then before else before ++ name ∷ []) names) none.0
    ∙ all_added (before ++ name ∷ []) names (none_with_last before names name none.1 differ.0) differ.1 ∙ append_assoc before (name ∷ []) names

none_among_none : (names : List (List ℕ)) → NoneAmong [] names
none_among_none [] = tt
none_among_none (name ∷ names) = (refl, none_among_none names)

set_is : (names : List (List ℕ)) → IsDistinct bytes_eq names → set_of names ≡ names
set_is names differ = all_added [] names (none_among_none names) differ

-- ---- addresses

not_equal : (n m : ℕ) → n ≡ m → (n == m) ≡ false → ⊥
not_equal n m same differ = grind (arith, nat_tests)

new_by : (text : List ℕ) (a b : Spot) (others : Bool) (here : Bool) → bytes_eq (characters text a) (characters text b) ≡ here → (number text a == number text b) ≡ false → others ≡ false → (here || others) ≡ false
new_by text a b others true is differ rest = absurd (not_equal (number text a) (number text b) (ap value_of_digits ((bytes_eq-Decides (characters text a) (characters text b)).0 is)) differ)
new_by text a b others false is differ rest = rest

-- a number that is new is written in a new way
new_text : (text : List ℕ) (address : Spot) (earlier : List ModuleText) → is_number_among (number text address) (map (λ e. number text e.address) earlier) ≡ false
    → is_among (characters text address) (map (λ e. characters text e.address) earlier) ≡ false
new_text text address [] new = refl
new_text text address (e ∷ earlier) new =
    let parts = both_false (number text address == number text e.address) (is_number_among (number text address) (map (λ (e : ModuleText). number text e.address) earlier)) new in
    new_by text address e.address (is_among (characters text address) (map (λ (e : ModuleText). characters text e.address) earlier)) (bytes_eq (characters text address) (characters text e.address)) refl parts.0
    (new_text text address earlier parts.1)

-- so the addresses of modules differ as they are written
addresses_written : (text : List ℕ) (tree : SourceText) → faults_of text tree ≡ [] → IsDistinct bytes_eq (addresses_of text tree.identities.modules)
addresses_written text tree none =
    names_differ (λ (e : ModuleText). characters text e.address) (module_faults (declared_in text tree))
    (λ earlier e fine. new_text text e.address earlier (new_address (declared_in text tree) earlier e (address_fine (declared_in text tree) earlier e fine)).new) tree.identities.modules (no_faults text tree none).modules

-- ---- places

-- points stand at the places of their names
pub places_of_points : (text : List ℕ) (tree : SourceText) (tables : Tables) → AreTablesOf text tree tables → faults_of text tree ≡ []
    → ArePlaces tables.points (map (λ e. characters text e.name) tree.identities.points)
places_of_points text tree tables are none = let new = new_of text tree none Points in record { same = are.declared_names Points ∙ new.all; differ = new.differ }

-- modules stand at those of their addresses
pub places_of_modules : (text : List ℕ) (tree : SourceText) (tables : Tables) → AreTablesOf text tree tables → faults_of text tree ≡ []
    → ArePlaces tables.addresses (addresses_of text tree.identities.modules)
places_of_modules text tree tables are none =
    let differ = addresses_written text tree none in
    record { same = are.addresses ∙ set_is (addresses_of text tree.identities.modules) differ; differ = differ }
