-- The names at pins of a text without faults: none stands there twice, and each points, signal and track does.
use Rattle.std.proofs.Common.{◌≡◌, ℕ, zero, suc, ◌+◌, ◌≤◌, ◌||◌, Bool, true, false, cond, not, List, [], ◌∷◌, ◌++◌, length, map, refl, ap, sym, subst, ◌∙◌, append_assoc, arith}
use Rattle.std.specs.Prelude.{⊤, All, nat_le}
use Rattle.std.specs.List.{count_by, list_any}
use Rattle.std.specs.Str.{bytes_eq}
use Rattle.std.proofs.lemmas.Bool.{not-false}
use Rattle.std.proofs.lemmas.Grind.{flat_map-append}
use Rattle.std.proofs.lemmas.List.{append-nil, map-append}
use Rattle.std.proofs.lemmas.List.Elements.{All-head, All-tail, All-map}
use Rattle.std.proofs.lemmas.List.Folds.{list_any-append}
use Rattle.std.proofs.lemmas.List.Sums.{sum_by-cons}
use Rattle.std.proofs.lemmas.Slice.Eq.{bytes_eq-Decides}
use Rattle.ssi_identities.specs.declared.fact.Kind.{Kind}
use Rattle.ssi_identities.specs.declared.fact.Kind.TheVariants.{Track}
use Rattle.ssi_identities.specs.Wells.{wired_kind, pin_count}
use Rattle.ssi_terms.specs.declared.tree.Spot.{Spot}
use Rattle.ssi_terms.specs.Trees.{PointsText, ModuleText}
use Rattle.ssi_names.specs.Codes.{unknown, twice, not_wired, wired_twice, too_many}
use Rattle.ssi_names.specs.Declarations.{Declared, declared, declared_in, is_wired_in, names_at, pins_of}
use Rattle.ssi_names.specs.Faults as f
use Rattle.ssi_names.specs.NameLists.{is_among}
use Rattle.ssi_names.specs.Occurrences.{at, in_order}
use Rattle.ssi_names.specs.SourceTexts.{SourceText}
use Rattle.ssi_names.specs.Texts.{characters}
use Rattle.ssi_names.specs.Words.{module_kind_of}
use Rattle.ssi_names.proofs.Fine.{no_front, no_back, first_fine, each_fine, no_faults}
use Rattle.ssi_names.proofs.Sets.{or_false}
use Rattle.ssi_names.proofs.WellModules.{pins_fine}

-- ---- counts

-- what an item adds to a count
abbrev pub one_if : Bool → ℕ
one_if passes = cond passes 1 0

pub count_step : {X : Type 0} (p : X → Bool) (x : X) (xs : List X) (passes : Bool) → p x ≡ passes → count_by p (x ∷ xs) ≡ one_if passes + count_by p xs
count_step p x xs passes is = sum_by-cons (λ y. one_if (p y)) x xs ∙ ap (λ b. one_if b + count_by p xs) is

-- where none passes, none is counted
pub count_none : {X : Type 0} (p : X → Bool) (xs : List X) → All (λ x. p x ≡ false) xs → count_by p xs ≡ 0
count_none p [] none = refl
count_none p (x ∷ xs) none =
    let rest = count_none p xs (All-tail (λ y. p y ≡ false) x xs none) in
    let step = count_step p x xs false (All-head (λ y. p y ≡ false) x xs none) in
    omega (arith, rest, step)

some_by : (here there : Bool) (all rest : ℕ) → all ≡ one_if here + rest → (here || there) ≡ true → (there ≡ true → 1 ≤ rest) → 1 ≤ all
some_by true there all rest is found more = omega (arith, is)
some_by false there all rest is found more = let m = more found in omega (arith, is, m)

-- where one passes, one at least is counted
pub count_some : {X : Type 0} (p : X → Bool) (xs : List X) → list_any p xs ≡ true → 1 ≤ count_by p xs
count_some p [] found = absurd cc
count_some p (x ∷ xs) found = some_by (p x) (list_any p xs) (count_by p (x ∷ xs)) (count_by p xs) (count_step p x xs (p x) refl) found (count_some p xs)

-- ---- no name twice

-- each of the names is new after those before it
abbrev AreNewAfter : List (List ℕ) → List (List ℕ) → Type 0
AreNewAfter before [] = ⊤
AreNewAfter before (name ∷ names) = (is_among name before ≡ false) × AreNewAfter (before ++ name ∷ []) names

once_by : (was same : Bool) (all rest : ℕ) → (same ≡ true → was ≡ false) → all ≡ one_if same + rest → one_if (was || same) + rest ≤ 1 → one_if was + all ≤ 1
once_by true true all rest old is few = let no : true ≡ false = old refl in absurd cc
once_by true false all rest old is few = omega (arith, is, few)
once_by false true all rest old is few = omega (arith, is, few)
once_by false false all rest old is few = omega (arith, is, few)

small : (b : Bool) → one_if b + 0 ≤ 1
small true = omega arith
small false = omega arith

-- a name stands once among them at most, and not at all where it stands before them
pub once : (before names : List (List ℕ)) (x : List ℕ) → AreNewAfter before names → one_if (is_among x before) + count_by (bytes_eq x) names ≤ 1
once before [] x new = small (is_among x before)
once before (n ∷ names) x new =
    let last : is_among x (before ++ n ∷ []) ≡ (is_among x before || bytes_eq x n) =
    list_any-append (bytes_eq x) before (n ∷ []) ∙ ap (λ b. is_among x before || b) (or_false (bytes_eq x n))
    in
    once_by (is_among x before) (bytes_eq x n) (count_by (bytes_eq x) (n ∷ names)) (count_by (bytes_eq x) names)
    (λ same. ap (λ y. is_among y before) ((bytes_eq-Decides x n).0 same) ∙ new.0) (count_step (bytes_eq x) n names (bytes_eq x n) refl)
    (subst (λ b. one_if b + count_by (bytes_eq x) names ≤ 1) last (once (before ++ n ∷ []) names x new.1))

new_append : (before xs ys : List (List ℕ)) → AreNewAfter before xs → AreNewAfter (before ++ xs) ys → AreNewAfter before (xs ++ ys)
new_append before [] ys new more = subst (λ b. AreNewAfter b ys) (append-nil before) more
new_append before (x ∷ xs) ys new more = (new.0, new_append (before ++ x ∷ []) xs ys new.1 (subst (λ b. AreNewAfter b ys) (sym (append_assoc before (x ∷ []) xs)) more))

-- a name at a pin without a fault is new
pin_new : (d : Declared) (kind : Kind) (count : ℕ) (named : List ℕ → Bool) (earlier : List (Spot × Spot)) (pin : Spot × Spot) → f.pin_faults d kind count named earlier pin ≡ []
    → (named (characters d.text pin.0) || is_among (characters d.text pin.0) (names_at d.text earlier)) ≡ false
pin_new d kind count named earlier pin none =
    let name = characters d.text pin.0 in
    let again = named name || is_among name (names_at d.text earlier) in
    let line = no_front (f.pin_name_faults d kind named earlier pin) (f.pin_number_faults d count earlier pin) none in
    (first_fine pin.0 again wired_twice [] (first_fine pin.0 (not (d.is_declared kind name)) unknown ((again, wired_twice) ∷ []) line).1).0

-- so are the names of an entry
new_pins : (d : Declared) (kind : Kind) (count : ℕ) (before : List (List ℕ)) (earlier pins : List (Spot × Spot)) → in_order (f.pin_faults d kind count (λ name. is_among name before)) earlier pins ≡ []
    → AreNewAfter (before ++ names_at d.text earlier) (names_at d.text pins)
new_pins d kind count before earlier [] none = tt
new_pins d kind count before earlier (p ∷ pins) none =
    let judge = f.pin_faults d kind count (λ name. is_among name before) in
    let rest = new_pins d kind count before (earlier ++ p ∷ []) pins (no_back (judge earlier p) (in_order judge (earlier ++ p ∷ []) pins) none) in
    let more : before ++ names_at d.text (earlier ++ p ∷ []) ≡ (before ++ names_at d.text earlier) ++ characters d.text p.0 ∷ [] =
    ap (λ names. before ++ names) (map-append (λ pin. characters d.text pin.0) earlier (p ∷ [])) ∙ sym (append_assoc before (names_at d.text earlier) (characters d.text p.0 ∷ []))
    in (
      list_any-append (bytes_eq (characters d.text p.0)) before (names_at d.text earlier)
          ∙ pin_new d kind count (λ name. is_among name before) earlier p (no_front (judge earlier p) (in_order judge (earlier ++ p ∷ []) pins) none),
      subst (λ names. AreNewAfter names (names_at d.text pins)) more rest,
    )

-- and those of all entries
pub new_modules : (d : Declared) (earlier modules : List ModuleText) → in_order (f.module_faults d) earlier modules ≡ []
    → AreNewAfter (names_at d.text (pins_of earlier)) (names_at d.text (pins_of modules))
new_modules d earlier [] none = tt
new_modules d earlier (m ∷ modules) none =
    let name = λ (pin : Spot × Spot). characters d.text pin.0 in
    let kind = module_kind_of (characters d.text m.kind) in
    let before = names_at d.text (pins_of earlier) in
    let fine = pins_fine d earlier m (no_front (f.module_faults d earlier m) (in_order (f.module_faults d) (earlier ++ m ∷ []) modules) none) in
    let here = new_pins d (wired_kind kind) (pin_count kind) before [] m.pins fine in
    let rest = new_modules d (earlier ++ m ∷ []) modules (no_back (f.module_faults d earlier m) (in_order (f.module_faults d) (earlier ++ m ∷ []) modules) none) in
    let more : names_at d.text (pins_of (earlier ++ m ∷ [])) ≡ before ++ names_at d.text m.pins =
    ap (names_at d.text) (flat_map-append (λ e. e.pins) earlier (m ∷ []) ∙ ap (λ ps. pins_of earlier ++ ps) (append-nil m.pins)) ∙ map-append name (pins_of earlier) m.pins
    in
    subst (AreNewAfter before) (sym (map-append name m.pins (pins_of modules)))
    (new_append before (names_at d.text m.pins) (names_at d.text (pins_of modules)) (subst (λ b. AreNewAfter b (names_at d.text m.pins)) (append-nil before) here)
    (subst (λ b. AreNewAfter b (names_at d.text (pins_of modules))) more rest))

-- ---- each name at a pin

-- a name that is declared and wired without faults is wired
third_fine : (spot : Spot) (again : Bool) (limit count : ℕ) (wired : Bool) → at spot ((again, twice) ∷ (nat_le limit count, too_many) ∷ (not wired, not_wired) ∷ []) ≡ [] → wired ≡ true
third_fine spot again limit count wired none =
    let first = first_fine spot again twice ((nat_le limit count, too_many) ∷ (not wired, not_wired) ∷ []) none in
    let second = first_fine spot (nat_le limit count) too_many ((not wired, not_wired) ∷ []) first.1 in
    not-false wired (first_fine spot (not wired) not_wired [] second.1).0

name_wired : {X : Type 0} (d : Declared) (name_of : X → Spot) (limit : ℕ) (earlier : List X) (x : X) → f.wired_name_faults d name_of limit earlier x ≡ []
    → d.is_wired (characters d.text (name_of x)) ≡ true
name_wired d name_of limit earlier x none =
    third_fine (name_of x) (is_among (characters d.text (name_of x)) (map (λ e. characters d.text (name_of e)) earlier)) limit (length earlier) (d.is_wired (characters d.text (name_of x))) none

-- every points, signal and track
pub all_wired : (text : List ℕ) (tree : SourceText) (kind : ℕ) → kind ≤ 2 → f.faults_of text tree ≡ [] → All (λ name. is_wired_in text tree name ≡ true) (declared text tree (wired_kind kind))
all_wired text tree zero few none =
    let d = declared_in text tree in
    All-map (λ name. d.is_wired name ≡ true) (λ (e : PointsText). characters text e.name) tree.identities.points
    (each_fine (f.points_faults d) (λ (e : PointsText). d.is_wired (characters text e.name) ≡ true)
    (λ earlier e fine. name_wired d (λ (e : PointsText). e.name) 126 earlier e
    (no_front (f.wired_name_faults d (λ (e : PointsText). e.name) 126 earlier e) (in_order (f.member_faults d Track 4) [] e.tracks) fine))
    [] tree.identities.points (no_faults text tree none).points)
all_wired text tree (suc zero) few none =
    let d = declared_in text tree in
    All-map (λ name. d.is_wired name ≡ true) (λ (e : Spot). characters text e) tree.identities.signals
    (each_fine (f.signal_faults d) (λ (e : Spot). d.is_wired (characters text e) ≡ true) (name_wired d (λ (e : Spot). e) 504)
    [] tree.identities.signals (no_faults text tree none).signals)
all_wired text tree (suc (suc zero)) few none =
    let d = declared_in text tree in
    All-map (λ name. d.is_wired name ≡ true) (λ (e : Spot). characters text e) tree.identities.tracks
    (each_fine (f.track_faults d) (λ (e : Spot). d.is_wired (characters text e) ≡ true) (name_wired d (λ (e : Spot). e) 504)
    [] tree.identities.tracks (no_faults text tree none).tracks)
all_wired text tree (suc (suc (suc kind))) few none = absurd (omega (arith, few))
