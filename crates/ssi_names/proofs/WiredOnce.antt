-- In a data set without faults each points, signal and track stands at exactly one pin.
use Rattle.std.proofs.Common.{◌≡◌, ◌≢◌, ℕ, ◌+◌, ◌<◌, ◌≤◌, ◌||◌, Bool, true, false, List, [], ◌∷◌, ◌++◌, length, map, get_or, take, Option, Some, None, refl, ap, sym, subst, ◌∙◌, arith, replicate}
use Rattle.std.specs.Prelude.{All, fold, nat_le, ◌==◌, if◌then◌else◌}
use Rattle.std.specs.List.{count_by, flat_map, position_or_len}
use Rattle.std.specs.Str.{bytes_eq}
use Rattle.std.proofs.lemmas.Bool.Decides.{nat_tests}
use Rattle.std.proofs.lemmas.List.{get_or-replicate, get_or-set_other, length-replicate, length-set, map-append}
use Rattle.std.proofs.lemmas.List.Elements.{All-head, All-tail, All-map, All-replicate}
use Rattle.std.proofs.lemmas.List.Folds.{list_any-append}
use Rattle.std.proofs.lemmas.List.Sums.{sum_by-append, sum_by-set}
use Rattle.std.proofs.lemmas.Slice.Eq.{bytes_eq-Decides}
use Rattle.ssi_identities.specs.declared.fact.Kind.{Kind}
use Rattle.ssi_identities.specs.DataSets.{ModulePlan}
use Rattle.ssi_identities.specs.IdentityNames.{IsNameOf}
use Rattle.ssi_identities.specs.Wells.{IsWiredOnce, is_wired_to, pin_count, wired_kind}
use Rattle.ssi_terms.specs.declared.tree.Spot.{Spot}
use Rattle.ssi_terms.specs.Trees.{ModuleText}
use Rattle.ssi_names.specs.Codes.{bad_pin}
use Rattle.ssi_names.specs.Declarations.{Declared, declared, declared_in, names_at, pins_of}
use Rattle.ssi_names.specs.Faults as f
use Rattle.ssi_names.specs.Formed.{IsFormed}
use Rattle.ssi_names.specs.ModuleRows.{pins_row, with_pin}
use Rattle.ssi_names.specs.NameLists.{is_among}
use Rattle.ssi_names.specs.Occurrences.{in_order}
use Rattle.ssi_names.specs.Rows.{module_row, resolved}
use Rattle.ssi_names.specs.SourceTexts.{SourceText}
use Rattle.ssi_names.specs.Texts.{characters, number, is_number_among}
use Rattle.ssi_names.specs.Words.{module_kind_of}
use Rattle.ssi_names.proofs.Distinct.{both_false}
use Rattle.ssi_names.proofs.Fine.{no_front, no_back, first_fine, each_fine, no_faults, new_of}
use Rattle.ssi_names.proofs.NamePlaces.{nth_place, place_by, among_all, one_kind}
use Rattle.ssi_names.proofs.PinNames.{one_if, count_step, count_none, count_some, once, new_modules, all_wired}
use Rattle.ssi_names.proofs.Sets.{or_false}
use Rattle.ssi_names.proofs.WellModules.{kind_small, pin_known, pins_fine}

-- ---- pins of a module

-- pins whose numbers no earlier entry has are not wired
abbrev AreFree : List ℕ → ℕ → List (Spot × Spot) → List (Option ℕ) → Type 0
AreFree text count earlier pins = (m : ℕ) → m < count → is_number_among m (map (λ e. number text e.1) earlier) ≡ false → get_or pins m None ≡ None

-- a pin without a fault is one of the module's, and no earlier entry has it
pin_free : (d : Declared) (kind : Kind) (count : ℕ) (named : List ℕ → Bool) (earlier : List (Spot × Spot)) (pin : Spot × Spot) → f.pin_faults d kind count named earlier pin ≡ []
    → (number d.text pin.1 < count) × (is_number_among (number d.text pin.1) (map (λ e. number d.text e.1) earlier) ≡ false)
pin_free d kind count named earlier pin none =
    let n = number d.text pin.1 in
    let again = is_number_among n (map (λ (e : Spot × Spot). number d.text e.1) earlier) in
    let line = no_back (f.pin_name_faults d kind named earlier pin) (f.pin_number_faults d count earlier pin) none in
    let parts = both_false (nat_le count n) again (first_fine pin.1 (nat_le count n || again) bad_pin [] line).0 in
    let large : nat_le count n ≡ false = parts.0 in
    (grind (arith, nat_tests), parts.1)

other_number : (a b : ℕ) → (a == b) ≡ false → a ≢ b
other_number a b e = grind (arith, nat_tests)

-- so they are with one more entry
free_more : (text : List ℕ) (count : ℕ) (earlier : List (Spot × Spot)) (pins : List (Option ℕ)) (e : Spot × Spot) (names : List (List ℕ)) → AreFree text count earlier pins
    → AreFree text count (earlier ++ e ∷ []) (with_pin text names pins e)
free_more text count earlier pins e names free m within new =
    let numbers = map (λ (e : Spot × Spot). number text e.1) earlier in
    let n = number text e.1 in
    let split : (is_number_among m numbers || (m == n)) ≡ false =
    sym (ap (is_number_among m) (map-append (λ (e : Spot × Spot). number text e.1) earlier (e ∷ [])) ∙ list_any-append (λ k. m == k) numbers (n ∷ [])
    ∙ ap (λ b. is_number_among m numbers || b) (or_false (m == n))) ∙ new
    in
    let parts = both_false (is_number_among m numbers) (m == n) split in
    get_or-set_other pins n m (Some (position_or_len (bytes_eq (characters text e.0)) names)) None (other_number m n parts.1) ∙ free m within parts.0

-- each entry with a name wires one more pin to its place
wired_counted : (d : Declared) (kind : Kind) (names : List (List ℕ)) (are : (name : List ℕ) → d.is_declared kind name ≡ is_among name names) (count : ℕ) (named : List ℕ → Bool) (x : List ℕ) (i : ℕ)
    → ((name : List ℕ) → is_among name names ≡ true → (position_or_len (bytes_eq name) names == i) ≡ bytes_eq x name)
    → (earlier entries : List (Spot × Spot)) (pins : List (Option ℕ)) → length pins ≡ count → AreFree d.text count earlier pins
    → in_order (f.pin_faults d kind count named) earlier entries ≡ []
    → count_by (is_wired_to i) (fold (with_pin d.text names) pins entries) ≡ count_by (is_wired_to i) pins + count_by (bytes_eq x) (names_at d.text entries)
wired_counted d kind names are count named x i same earlier [] pins long free none = omega arith
wired_counted d kind names are count named x i same earlier (e ∷ es) pins long free none =
    let judge = f.pin_faults d kind count named in
    let name = characters d.text e.0 in
    let n = number d.text e.1 in
    let place = position_or_len (bytes_eq name) names in
    let after = with_pin d.text names pins e in
    let here = no_front (judge earlier e) (in_order judge (earlier ++ e ∷ []) es) none in
    let fits = pin_free d kind count named earlier e here in
    let put : count_by (is_wired_to i) after + one_if (is_wired_to i (get_or pins n None)) ≡ count_by (is_wired_to i) pins + one_if (place == i) =
    sum_by-set (λ y. one_if (is_wired_to i y)) pins n (Some place) None (omega (arith, long, fits.0))
    in
    let was : one_if (is_wired_to i (get_or pins n None)) ≡ 0 = ap (λ y. one_if (is_wired_to i y)) (free n fits.0 fits.1) in
    let is : one_if (place == i) ≡ one_if (bytes_eq x name) = ap one_if (same name (sym (are name) ∙ pin_known d kind count named earlier e here)) in
    let more : count_by (bytes_eq x) (names_at d.text (e ∷ es)) ≡ one_if (bytes_eq x name) + count_by (bytes_eq x) (names_at d.text es) = count_step (bytes_eq x) name (names_at d.text es) (bytes_eq x name) refl in
    let rest = wired_counted d kind names are count named x i same (earlier ++ e ∷ []) es after (length-set pins n (Some place) ∙ long) (free_more d.text count earlier pins e names free)
    (no_back (judge earlier e) (in_order judge (earlier ++ e ∷ []) es) none)
    in
    omega (arith, put, was, is, more, rest)

-- as many pins are wired to the place of a name as entries have the name
row_counted : (d : Declared) (kind : Kind) (names : List (List ℕ)) (are : (name : List ℕ) → d.is_declared kind name ≡ is_among name names) (count : ℕ) (named : List ℕ → Bool) (x : List ℕ) (i : ℕ)
    → ((name : List ℕ) → is_among name names ≡ true → (position_or_len (bytes_eq name) names == i) ≡ bytes_eq x name)
    → (entries : List (Spot × Spot)) → in_order (f.pin_faults d kind count named) [] entries ≡ []
    → count_by (is_wired_to i) (pins_row d.text names count entries) ≡ count_by (bytes_eq x) (names_at d.text entries)
row_counted d kind names are count named x i same entries none =
    let start = count_none (is_wired_to i) (replicate count None) (All-replicate (λ y. is_wired_to i y ≡ false) count None refl) in
    let all = wired_counted d kind names are count named x i same [] entries (replicate count None) (length-replicate count None) (λ m within new. get_or-replicate count m None None within) none in
    omega (arith, start, all)

-- ---- all modules

-- as many pins of all modules as entries, where it is so of each module
all_counted : (text : List ℕ) (p : Option ℕ → Bool) (x : List ℕ) (pins : ModulePlan → List (Option ℕ)) (row : ModuleText → ModulePlan) (modules : List ModuleText)
    → All (λ m. count_by p (pins (row m)) ≡ count_by (bytes_eq x) (names_at text m.pins)) modules
    → count_by p (flat_map pins (map row modules)) ≡ count_by (bytes_eq x) (names_at text (pins_of modules))
all_counted text p x pins row [] each = refl
all_counted text p x pins row (m ∷ modules) each =
    let P = λ (m : ModuleText). count_by p (pins (row m)) ≡ count_by (bytes_eq x) (names_at text m.pins) in
    let here = All-head P m modules each in
    let rest = all_counted text p x pins row modules (All-tail P m modules each) in
    let left = sum_by-append (λ y. one_if (p y)) (pins (row m)) (flat_map pins (map row modules)) in
    let right = sum_by-append (λ y. one_if (bytes_eq x y)) (names_at text m.pins) (names_at text (pins_of modules)) in
    left ∙ ap (λ n. n + count_by p (flat_map pins (map row modules))) here ∙ ap (λ n. count_by (bytes_eq x) (names_at text m.pins) + n) rest
    ∙ sym (ap (count_by (bytes_eq x)) (map-append (λ pin. characters text pin.0) m.pins (pins_of modules)) ∙ right)

-- a text without faults, and an identity of the kind at the pins of a kind of modules
module _ (text : List ℕ) (tree : SourceText) (formed : IsFormed text tree) (none : f.faults_of text tree ≡ []) (kind : ℕ) (few : kind ≤ 2) (i : ℕ)
    (within : i < length (declared text tree (wired_kind kind))) where
  abbrev d : Declared
  d = declared_in text tree

  -- the identity's name
  abbrev x : List ℕ
  x = get_or (declared text tree (wired_kind kind)) i []

  -- its place tells it from other names that are declared
  place_test : (names : List (List ℕ)) → declared text tree (wired_kind kind) ≡ names → (name : List ℕ) → is_among name names ≡ true → (position_or_len (bytes_eq name) names == i) ≡ bytes_eq x name
  place_test names are name there =
      place_by names x name i (bytes_eq x name) refl
      (ap (λ ns. position_or_len (bytes_eq x) ns) (sym are) ∙ nth_place (declared text tree (wired_kind kind)) i (new_of text tree none (wired_kind kind)).differ within) there

  -- a name at a pin of another kind of modules is another name
  other_name : (other : ℕ) → other ≤ 2 → (other == kind) ≡ false → (name : List ℕ) → is_among name (declared text tree (wired_kind other)) ≡ true → (same : Bool) → bytes_eq x name ≡ same → same ≡ false
  other_name other small differ name there false is = refl
  other_name other small differ name there true is =
      let begins = (among_all (IsNameOf (wired_kind other)) (declared text tree (wired_kind other)) name (formed.names (wired_kind other)) there).begins in
      let here = ap (take 1) (sym ((bytes_eq-Decides x name).0 is)) ∙ (formed.names (wired_kind kind) i [] within).begins in
      absurd (other_number other kind differ (one_kind other kind small few (sym begins ∙ here)))

  -- the pins of a module of the kind, or of another kind
  module_by : (earlier : List ModuleText) (m : ModuleText) (same : Bool) → (module_kind_of (characters text m.kind) == kind) ≡ same → f.module_faults d earlier m ≡ []
      → count_by (is_wired_to i) (if same then (module_row text (declared text tree) tree.outputs tree.inputs m).pins else []) ≡ count_by (bytes_eq x) (names_at text m.pins)
  module_by earlier m true is fine =
      let of = module_kind_of (characters text m.kind) in
      let number_is : of ≡ kind = grind (arith, nat_tests) in
      let names = declared text tree (wired_kind of) in
      row_counted d (wired_kind of) names (λ name. refl) (pin_count of) (f.is_named_by d earlier) x i
      (place_test names (ap (λ k. declared text tree (wired_kind k)) (sym number_is))) m.pins (pins_fine d earlier m fine)
  module_by earlier m false is fine =
      let of = module_kind_of (characters text m.kind) in
      let judge = f.pin_faults d (wired_kind of) (pin_count of) (f.is_named_by d earlier) in
      let others = each_fine judge (λ (pin : Spot × Spot). bytes_eq x (characters text pin.0) ≡ false)
      (λ before pin so.
      let there = pin_known d (wired_kind of) (pin_count of) (f.is_named_by d earlier) before pin so in
      other_name of (kind_small (characters text m.kind)) is (characters text pin.0) there (bytes_eq x (characters text pin.0)) refl)
      [] m.pins (pins_fine d earlier m fine)
      in
      sym (count_none (bytes_eq x) (names_at text m.pins) (All-map (λ name. bytes_eq x name ≡ false) (λ (pin : Spot × Spot). characters text pin.0) m.pins others))

  -- the identity stands at exactly one pin
  pub wired_once : IsWiredOnce (resolved text tree) kind i
  wired_once =
      let modules = tree.identities.modules in
      let fine = (no_faults text tree none).modules in
      let pins = λ (row : ModulePlan). if row.kind == kind then row.pins else [] in
      let each = each_fine (f.module_faults d) (λ (m : ModuleText). count_by (is_wired_to i) (pins (module_row text (declared text tree) tree.outputs tree.inputs m)) ≡ count_by (bytes_eq x) (names_at text m.pins))
      (λ earlier m so. module_by earlier m (module_kind_of (characters text m.kind) == kind) refl so) [] modules fine
      in
      let as_many = all_counted text (is_wired_to i) x pins (module_row text (declared text tree) tree.outputs tree.inputs) modules each in
      let some = count_some (bytes_eq x) (names_at text (pins_of modules)) (all_wired text tree kind few none i [] within) in
      let one = once [] (names_at text (pins_of modules)) x (new_modules d [] modules fine) in
      let exact : count_by (bytes_eq x) (names_at text (pins_of modules)) ≡ 1 = omega (arith, some, one) in
      as_many ∙ exact
