-- What is noted of an entry of TFM by its tables is what the lists say.
use Rattle.std.proofs.Common.{◌≡◌, ℕ, ◌+◌, ◌<◌, ◌≤◌, ◌||◌, Bool, true, false, not, List, [], ◌∷◌, ◌++◌, length, map, take, get_or, min, refl, ap, sym, ◌∙◌, append_assoc, arith}
use Rattle.std.specs.Prelude.{fold, ◌==◌, nat_le, slice_index_or}
use Rattle.std.proofs.lemmas.Bool.Decides.{nat_tests}
use Rattle.std.proofs.lemmas.Grind.{flat_map-append}
use Rattle.std.proofs.lemmas.List.{append-nil, map-append, take_more}
use Rattle.std.proofs.lemmas.List.Sums.{fold-append}
use Rattle.ssi_identities.specs.declared.fact.Kind.{Kind}
use Rattle.ssi_identities.specs.Wells.{wired_kind, pin_count}
use Rattle.ssi_terms.specs.declared.tree.Spot.{Spot}
use Rattle.ssi_names.specs.declared.fault.Fault.{Fault}
use Rattle.ssi_names.specs.Codes.{unknown, twice, bad_pin, wired_twice}
use Rattle.ssi_terms.specs.Trees.{ModuleText}
use Rattle.ssi_names.specs.Declarations.{Declared, pins_of, names_at}
use Rattle.ssi_names.specs.Faults.{pin_faults, module_faults, is_named_by}
use Rattle.ssi_names.specs.NameLists.{is_among, with_name, set_of}
use Rattle.ssi_names.specs.Occurrences.{at, in_order}
use Rattle.ssi_names.specs.Texts.{characters, number, is_number_among}
use Rattle.ssi_names.specs.Words.{module_kind_of}
use Rattle.ssi_names.proofs.Marks.{IsMarked, was_marked}
use Rattle.ssi_names.proofs.Sets.{in_fold, in_set}

-- whether a pin is bad, by the marks and by the list, where it is too large or not
pin_test_by : (count n : ℕ) (used : List Bool) (numbers : List ℕ) (large : Bool) → nat_le count n ≡ large → count ≤ 8 → IsMarked 8 used numbers
    → (nat_le count (min n 255) || slice_index_or used (min n 255) false) ≡ (large || is_number_among n numbers)
pin_test_by count n used numbers true e few marked =
    let is : nat_le count (min n 255) ≡ true = grind (arith, nat_tests) in
    ap (λ b. b || slice_index_or used (min n 255) false) is
pin_test_by count n used numbers false e few marked =
    let is : nat_le count (min n 255) ≡ false = grind (arith, nat_tests) in
    let within : n < 8 = grind (arith, nat_tests) in
    ap (λ b. b || slice_index_or used (min n 255) false) is ∙ was_marked 8 used numbers n (omega arith) marked within

-- whether a pin is bad, by the marks and by the list
pub pin_test : (count n : ℕ) (used : List Bool) (numbers : List ℕ) → count ≤ 8 → IsMarked 8 used numbers
    → (nat_le count (min n 255) || slice_index_or used (min n 255) false) ≡ (nat_le count n || is_number_among n numbers)
pin_test count n used numbers few marked = pin_test_by count n used numbers (nat_le count n) refl few marked

-- the faults of one pin
pub pin_is : (d : Declared) (kind : Kind) (count : ℕ) (before : List (List ℕ)) (earlier : List (Spot × Spot)) (pin : Spot × Spot)
    (seen : List (List ℕ)) (used : List Bool) (old middle new : List Fault) → count ≤ 8 → seen ≡ fold with_name before (names_at d.text earlier)
    → IsMarked 8 used (map (λ e. number d.text e.1) earlier)
    → middle ≡ old ++ at pin.0 ((not (d.is_declared kind (characters d.text pin.0)), unknown) ∷ (is_among (characters d.text pin.0) seen, wired_twice) ∷ [])
    → new ≡ middle ++ at pin.1 ((nat_le count (min (number d.text pin.1) 255) || slice_index_or used (min (number d.text pin.1) 255) false, bad_pin) ∷ [])
    → new ≡ old ++ pin_faults d kind count (λ name. is_among name before) earlier pin
pin_is d kind count before earlier pin seen used old middle new few was marked first second =
    let named = ap (is_among (characters d.text pin.0)) was ∙ in_fold before (names_at d.text earlier) (characters d.text pin.0) in
    let taken = pin_test count (number d.text pin.1) used (map (λ e. number d.text e.1) earlier) few marked in
    second ∙ ap (λ b. middle ++ at pin.1 ((b, bad_pin) ∷ [])) taken
    ∙ ap (λ faults. faults ++ at pin.1 ((nat_le count (number d.text pin.1) || is_number_among (number d.text pin.1) (map (λ e. number d.text e.1) earlier), bad_pin) ∷ []))
    (first ∙ ap (λ b. old ++ at pin.0 ((not (d.is_declared kind (characters d.text pin.0)), unknown) ∷ (b, wired_twice) ∷ [])) named)
    ∙ append_assoc old _ _

-- whether an address is out of its range, by its number up to 255
address_test_by : (n : ℕ) (large : Bool) → nat_le 64 n ≡ large → (min n 255 == 0 || nat_le 64 (min n 255)) ≡ (n == 0 || large)
address_test_by n true e = grind (arith, nat_tests)
address_test_by n false e = grind (arith, nat_tests)

-- the line of an address that is bad or not
address_line_by : (spot : Spot) (n : ℕ) (used : List Bool) (numbers : List ℕ) (bad : Bool) → (n == 0 || nat_le 64 n) ≡ bad → IsMarked 64 used numbers
    → at spot ((bad, bad_pin) ∷ (slice_index_or used (min n 255) false, twice) ∷ []) ≡ at spot ((bad, bad_pin) ∷ (is_number_among n numbers, twice) ∷ [])
address_line_by spot n used numbers true e marked = refl
address_line_by spot n used numbers false e marked =
    let within : n < 64 = grind (arith, nat_tests) in
    ap (λ b. at spot ((b, twice) ∷ [])) (was_marked 64 used numbers n (omega arith) marked within)

-- one address
pub address_line : (spot : Spot) (n : ℕ) (used : List Bool) (numbers : List ℕ) → IsMarked 64 used numbers
    → at spot ((min n 255 == 0 || nat_le 64 (min n 255), bad_pin) ∷ (slice_index_or used (min n 255) false, twice) ∷ [])
    ≡ at spot ((n == 0 || nat_le 64 n, bad_pin) ∷ (is_number_among n numbers, twice) ∷ [])
address_line spot n used numbers marked =
    ap (λ b. at spot ((b, bad_pin) ∷ (slice_index_or used (min n 255) false, twice) ∷ [])) (address_test_by n (nat_le 64 n) refl)
    ∙ address_line_by spot n used numbers (n == 0 || nat_le 64 n) refl marked

-- where nothing is written
abbrev pub no_spot : Spot
no_spot = record { start = 0; len = 0; token = 0; place = record { line = 0; column = 0 } }

-- the faults of one entry
pub module_is : (d : Declared) (earlier : List ModuleText) (entry : ModuleText) (kind : Kind) (count : ℕ)
    (seen : List (List ℕ)) (used : List Bool) (pins : List (Spot × Spot)) (old middle new : List Fault) → seen ≡ set_of (names_at d.text (pins_of earlier))
    → IsMarked 64 used (map (λ e. number d.text e.address) earlier) → kind ≡ wired_kind (module_kind_of (characters d.text entry.kind)) → count ≡ pin_count (module_kind_of (characters d.text entry.kind)) → pins ≡ entry.pins
    → middle ≡ old ++ at entry.address ((min (number d.text entry.address) 255 == 0 || nat_le 64 (min (number d.text entry.address) 255), bad_pin)
    ∷ (slice_index_or used (min (number d.text entry.address) 255) false, twice) ∷ [])
    → new ≡ middle ++ in_order (pin_faults d kind count (λ name. is_among name seen)) [] pins → new ≡ old ++ module_faults d earlier entry
module_is d earlier entry kind count seen used pins old middle new was marked kind_is count_is pins_are first second =
    let number_of = module_kind_of (characters d.text entry.kind) in
    let named : (λ name. is_among name seen) ≡ is_named_by d earlier =
    (λ j name. (ap (is_among name) was ∙ in_set (names_at d.text (pins_of earlier)) name) j)
    in
    second ∙ ap (λ test. middle ++ in_order (pin_faults d kind count test) [] pins) named
    ∙ ap (λ k. middle ++ in_order (pin_faults d k count (is_named_by d earlier)) [] pins) kind_is
    ∙ ap (λ n. middle ++ in_order (pin_faults d (wired_kind number_of) n (is_named_by d earlier)) [] pins) count_is
    ∙ ap (λ ps. middle ++ in_order (pin_faults d (wired_kind number_of) (pin_count number_of) (is_named_by d earlier)) [] ps) pins_are
    ∙ ap (λ faults. faults ++ in_order (pin_faults d (wired_kind number_of) (pin_count number_of) (is_named_by d earlier)) [] entry.pins)
    (first ∙ ap (λ faults. old ++ faults) (address_line entry.address (number d.text entry.address) used (map (λ e. number d.text e.address) earlier) marked))
    ∙ append_assoc old _ _

-- the names at the pins of one more entry
pub pins_more : (text : List ℕ) (entries : List ModuleText) (i : ℕ) (entry : ModuleText) (pins : List (Spot × Spot)) (before now new : List (List ℕ)) → i < length entries → entry ≡ get_or entries i entry
    → pins ≡ entry.pins → now ≡ fold with_name before (names_at text (pins_of (take i entries))) → new ≡ fold with_name now (names_at text pins)
    → new ≡ fold with_name before (names_at text (pins_of (take (i + 1) entries)))
pins_more text entries i entry pins before now new within is pins_are was added =
    let name = λ (pin : Spot × Spot). characters text pin.0 in
    let more : pins_of (take (i + 1) entries) ≡ pins_of (take i entries) ++ entry.pins =
    ap pins_of (take_more entries i entry within ∙ ap (λ e. take i entries ++ e ∷ []) (sym is)) ∙ flat_map-append (λ e. e.pins) (take i entries) (entry ∷ [])
    ∙ ap (λ ps. pins_of (take i entries) ++ ps) (append-nil entry.pins)
    in
    added ∙ ap (λ ps. fold with_name now (map name ps)) pins_are ∙ ap (λ names. fold with_name names (map name entry.pins)) was
    ∙ sym (ap (λ ps. fold with_name before (map name ps)) more ∙ ap (fold with_name before) (map-append name (pins_of (take i entries)) entry.pins)
    ∙ fold-append with_name before (map name (pins_of (take i entries))) (map name entry.pins))
