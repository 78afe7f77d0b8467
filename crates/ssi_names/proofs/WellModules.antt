-- Modules without faults.
use Rattle.std.proofs.Common.{◌≡◌, ℕ, ◌<◌, ◌≤◌, ◌||◌, Bool, true, false, not, List, [], ◌∷◌, ◌++◌, length, map, Option, Some, None, refl, ap, sym, subst, ◌∙◌, arith, replicate}
use Rattle.std.specs.Prelude.{All, IfSome, fold, nat_le, ◌==◌, if◌then◌else◌, codes}
use Rattle.std.specs.List.{AllByRecursion, IsDistinct, position_or_len}
use Rattle.std.specs.Str.{bytes_eq}
use Rattle.std.proofs.lemmas.Bool.{leb-false, not-false}
use Rattle.std.proofs.lemmas.Bool.Decides.{nat_tests}
use Rattle.std.proofs.lemmas.Grind.{common_steps}
use Rattle.std.proofs.lemmas.List.{length-map, map-append}
use Rattle.std.proofs.lemmas.List.Elements.{All-cons, All-head, All-tail, All-map, All-replicate, All-set}
use Rattle.std.proofs.lemmas.List.Folds.{list_any-append}
use Rattle.std.proofs.lemmas.Map.Steps.{length-le_from_distinct_below}
use Rattle.ssi_identities.specs.declared.fact.Kind.{Kind}
use Rattle.ssi_identities.specs.Wells.{wired_kind, pin_count}
use Rattle.ssi_terms.specs.declared.tree.Spot.{Spot}
use Rattle.ssi_terms.specs.Trees.{ModuleText}
use Rattle.ssi_names.specs.Codes.{unknown, twice, bad_pin, wired_twice}
use Rattle.ssi_names.specs.Declarations.{Declared, declared_in, names_at}
use Rattle.ssi_names.specs.Faults as f
use Rattle.ssi_names.specs.ModuleRows.{with_pin, pins_row}
use Rattle.ssi_names.specs.NameLists.{is_among}
use Rattle.ssi_names.specs.Occurrences.{in_order}
use Rattle.ssi_names.specs.SourceTexts.{SourceText}
use Rattle.ssi_names.specs.Texts.{characters, number, is_number_among}
use Rattle.ssi_names.specs.Words.{module_kind_of}
use Rattle.ssi_names.proofs.Distinct.{both_false, place_below}
use Rattle.ssi_names.proofs.Fine.{no_front, no_back, first_fine, each_fine, no_faults}
use Rattle.ssi_names.proofs.Sets.{or_false}
use Rattle.ssi_names.proofs.Wires.{wires_keep}

-- ---- addresses

-- an address without a fault is 1 to 63, and new
pub record IsNewAddress (text : List ℕ) (earlier : List ModuleText) (entry : ModuleText) : Type 0 where
  pub some : 0 < number text entry.address
  pub few : number text entry.address < 64
  pub new : is_number_among (number text entry.address) (map (λ e. number text e.address) earlier) ≡ false

zero_no : (n : ℕ) → (n == 0) ≡ false → 0 < n
zero_no n e = grind (arith, nat_tests)

pub new_address : (d : Declared) (earlier : List ModuleText) (entry : ModuleText) → f.address_faults d earlier entry ≡ [] → IsNewAddress d.text earlier entry
new_address d earlier entry none =
    let n = number d.text entry.address in
    let again = is_number_among n (map (λ (e : ModuleText). number d.text e.address) earlier) in
    let first = first_fine entry.address (n == 0 || nat_le 64 n) bad_pin ((again, twice) ∷ []) none in
    let range = both_false (n == 0) (nat_le 64 n) first.0 in
    record { some = zero_no n range.0; few = leb-false 64 n range.1; new = (first_fine entry.address again twice [] first.1).0 }

-- the address and the pins of an entry without faults
pub address_fine : (d : Declared) (earlier : List ModuleText) (entry : ModuleText) → f.module_faults d earlier entry ≡ [] → f.address_faults d earlier entry ≡ []
address_fine d earlier entry none =
    let kind = module_kind_of (characters d.text entry.kind) in
    no_front (f.address_faults d earlier entry) (in_order (f.pin_faults d (wired_kind kind) (pin_count kind) (f.is_named_by d earlier)) [] entry.pins) none

pub pins_fine : (d : Declared) (earlier : List ModuleText) (entry : ModuleText) → f.module_faults d earlier entry ≡ []
    → in_order (f.pin_faults d (wired_kind (module_kind_of (characters d.text entry.kind))) (pin_count (module_kind_of (characters d.text entry.kind))) (f.is_named_by d earlier)) [] entry.pins ≡ []
pins_fine d earlier entry none =
    let kind = module_kind_of (characters d.text entry.kind) in
    no_back (f.address_faults d earlier entry) (in_order (f.pin_faults d (wired_kind kind) (pin_count kind) (f.is_named_by d earlier)) [] entry.pins) none

other_number : (a b : ℕ) → (a == b) ≡ false → (b == a) ≡ false
other_number a b e = grind (arith, nat_tests)

-- none of the numbers is among those before
abbrev NoNumber : List ℕ → List ℕ → Type 0
NoNumber before numbers = AllByRecursion (λ n. is_number_among n before ≡ false) numbers

-- the last of those before differs from each of the numbers
with_last_number : (before numbers : List ℕ) (last : ℕ) → NoNumber (before ++ last ∷ []) numbers → NoNumber before numbers × AllByRecursion (λ n. (last == n) ≡ false) numbers
with_last_number before [] last none = (tt, tt)
with_last_number before (n ∷ numbers) last none =
    let split : (is_number_among n before || (n == last)) ≡ false =
    sym (list_any-append (λ m. n == m) before (last ∷ []) ∙ ap (λ b. is_number_among n before || b) (or_false (n == last))) ∙ none.0
    in
    let parts = both_false (is_number_among n before) (n == last) split in
    let rest = with_last_number before numbers last none.1 in
    ((parts.0, rest.0), (other_number n last parts.1, rest.1))

-- the addresses of entries without faults differ
addresses_by : (d : Declared) (earlier modules : List ModuleText) → in_order (f.module_faults d) earlier modules ≡ []
    → NoNumber (map (λ e. number d.text e.address) earlier) (map (λ e. number d.text e.address) modules) × IsDistinct (λ a b. a == b) (map (λ e. number d.text e.address) modules)
unfolding IsDistinct
addresses_by d earlier [] none = (tt, tt)
addresses_by d earlier (m ∷ modules) none =
    let address = λ (e : ModuleText). number d.text e.address in
    let here = new_address d earlier m (address_fine d earlier m (no_front (f.module_faults d earlier m) (in_order (f.module_faults d) (earlier ++ m ∷ []) modules) none)) in
    let rest = addresses_by d (earlier ++ m ∷ []) modules (no_back (f.module_faults d earlier m) (in_order (f.module_faults d) (earlier ++ m ∷ []) modules) none) in
    let parts = with_last_number (map address earlier) (map address modules) (address m) (subst (λ numbers. NoNumber numbers (map address modules)) (map-append address earlier (m ∷ [])) rest.0) in
    ((here.new, parts.0), (parts.1, rest.1))

pub addresses_differ : (d : Declared) (modules : List ModuleText) → in_order (f.module_faults d) [] modules ≡ []
    → IsDistinct (λ a b. a == b) (map (λ e. number d.text e.address) modules)
addresses_differ d modules none = (addresses_by d [] modules none).1

small_by : (limit q n : ℕ) (here there : Bool) → (q == n) ≡ here → (here || there) ≡ true → n < limit → (there ≡ true → q < limit) → q < limit
small_by limit q n true there is found below rest = grind (arith, nat_tests)
small_by limit q n false there is found below rest = rest found

-- a number that is among numbers below a limit is below it
small_among : (limit : ℕ) (numbers : List ℕ) → All (λ n. n < limit) numbers → (q : ℕ) → is_number_among q numbers ≡ true → q < limit
small_among limit [] all q found = absurd cc
small_among limit (n ∷ numbers) all q found =
    small_by limit q n (q == n) (is_number_among q numbers) refl found (All-head (λ n. n < limit) n numbers all) (small_among limit numbers (All-tail (λ n. n < limit) n numbers all) q)

-- none of some numbers from 1 on is 0
none_zero : (numbers : List ℕ) → All (λ n. 0 < n) numbers → AllByRecursion (λ n. (0 == n) ≡ false) numbers
none_zero [] some = tt
none_zero (n ∷ numbers) some =
    let one : 0 < n = All-head (λ n. 0 < n) n numbers some in
    (grind (arith, nat_tests), none_zero numbers (All-tail (λ n. 0 < n) n numbers some))

-- numbers from 1 to 63 that differ are 63 at most
few_numbers : (numbers : List ℕ) → IsDistinct (λ a b. a == b) numbers → All (λ n. 0 < n) numbers → All (λ n. n < 64) numbers → length numbers ≤ 63
unfolding IsDistinct
few_numbers numbers differ some few =
    let all = length-le_from_distinct_below (0 ∷ numbers) 64 (none_zero numbers some, differ) (small_among 64 (0 ∷ numbers) (All-cons (λ n. n < 64) 0 numbers (omega arith) few)) in
    omega (arith, all)

-- so entries without faults are 63 at most
pub few_modules : {Y : Type 0} (d : Declared) (row : ModuleText → Y) (modules : List ModuleText) → in_order (f.module_faults d) [] modules ≡ [] → length (map row modules) ≤ 63
few_modules d row modules none =
    let address = λ (e : ModuleText). number d.text e.address in
    let each = each_fine (f.module_faults d) (λ (e : ModuleText). (0 < address e) × (address e < 64))
    (λ earlier e so. let fine = new_address d earlier e (address_fine d earlier e so) in (fine.some, fine.few)) [] modules none
    in
    let few = few_numbers (map address modules) (addresses_differ d modules none) (All-map (λ n. 0 < n) address modules (λ k d within. (each k d within).0))
    (All-map (λ n. n < 64) address modules (λ k d within. (each k d within).1))
    in
    let numbered : length (map address modules) ≡ length modules = simp length-map in
    let made : length (map row modules) ≡ length modules = simp length-map in
    omega (arith, few, numbered, made)

-- ---- kinds and pins

kind_by_word : (points signals : Bool) → (if points then 0 else if signals then 1 else 2) ≤ 2
kind_by_word true signals = omega arith
kind_by_word false true = omega arith
kind_by_word false false = omega arith

pub kind_small : (word : List ℕ) → module_kind_of word ≤ 2
kind_small word = kind_by_word (bytes_eq word (codes "points")) (bytes_eq word (codes "signal"))

-- a pin's name without a fault is declared
pub pin_known : (d : Declared) (kind : Kind) (count : ℕ) (named : List ℕ → Bool) (earlier : List (Spot × Spot)) (pin : Spot × Spot) → f.pin_faults d kind count named earlier pin ≡ []
    → d.is_declared kind (characters d.text pin.0) ≡ true
pin_known d kind count named earlier pin none =
    let name = characters d.text pin.0 in
    let again = named name || is_among name (names_at d.text earlier) in
    not-false (d.is_declared kind name)
    (first_fine pin.0 (not (d.is_declared kind name)) unknown ((again, wired_twice) ∷ []) (no_front (f.pin_name_faults d kind named earlier pin) (f.pin_number_faults d count earlier pin) none)).0

-- what is declared of a kind, where these are its names
module _ (d : Declared) (kind : Kind) (names : List (List ℕ)) (are : (name : List ℕ) → d.is_declared kind name ≡ is_among name names) where
  -- pins that are wired to names that are declared are wired to numbers below the count
  wired_below : (count : ℕ) (named : List ℕ → Bool) (earlier entries : List (Spot × Spot)) (pins : List (Option ℕ))
      → in_order (f.pin_faults d kind count named) earlier entries ≡ [] → All (λ pin. IfSome pin (λ n. n < length names)) pins
      → All (λ pin. IfSome pin (λ n. n < length names)) (fold (with_pin d.text names) pins entries)
  wired_below count named earlier [] pins none all = all
  wired_below count named earlier (e ∷ es) pins none all =
      let judge = f.pin_faults d kind count named in
      let name = characters d.text e.0 in
      let found = sym (are name) ∙ pin_known d kind count named earlier e (no_front (judge earlier e) (in_order judge (earlier ++ e ∷ []) es) none) in
      wired_below count named (earlier ++ e ∷ []) es (with_pin d.text names pins e) (no_back (judge earlier e) (in_order judge (earlier ++ e ∷ []) es) none)
      (All-set (λ pin. IfSome pin (λ n. n < length names)) pins (number d.text e.1) (Some (position_or_len (bytes_eq name) names)) (place_below names name found) all)

  -- so are those of a module
  pub row_wired : (count : ℕ) (named : List ℕ → Bool) (entries : List (Spot × Spot)) → in_order (f.pin_faults d kind count named) [] entries ≡ []
      → All (λ pin. IfSome pin (λ n. n < length names)) (pins_row d.text names count entries)
  row_wired count named entries none =
      wired_below count named [] entries (replicate count None) none (All-replicate (λ pin. IfSome pin (λ n. n < length names)) count None tt)

pub row_long : (text : List ℕ) (names : List (List ℕ)) (count : ℕ) (entries : List (Spot × Spot)) → length (pins_row text names count entries) ≡ count
row_long text names count entries =
    let long : length (replicate {A = Option ℕ} count None) ≡ count = grind (arith, common_steps) in
    wires_keep text names (replicate count None) entries ∙ long

-- the addresses of a source without faults are below 64
pub addresses_small : (text : List ℕ) (tree : SourceText) → f.faults_of text tree ≡ [] → All (λ e. number text e.address < 64) tree.identities.modules
addresses_small text tree none =
    let d = declared_in text tree in
    each_fine (f.module_faults d) (λ (e : ModuleText). number text e.address < 64) (λ earlier e so. (new_address d earlier e (address_fine d earlier e so)).few)
    [] tree.identities.modules (no_faults text tree none).modules
