-- How the lists of names grow.
use Rattle.std.proofs.Common.{◌≡◌, ◌<◌, ◌≤◌, ℕ, zero, suc, ◌+◌, List, [], ◌∷◌, length, ap, sym, subst, arith, slice_index_or, slice_set, replicate}
use Rattle.std.proofs.lemmas.List.{length-append}
use Rattle.ssi_identities.specs.declared.fact.Kind.{Kind}
use Rattle.ssi_identities.specs.declared.names.Added.{Added}
use Rattle.ssi_identities.specs.declared.names.Added.TheVariants.{New, Old}
use Rattle.ssi_identities.specs.NameLists.{kind_number, names_of, IsAdded, IsEmptyOfEach, with_names}

at_each : (lists : List (List (List ℕ))) (i j n : ℕ) (names : List (List ℕ)) → length names ≤ n → length (slice_index_or lists j []) ≤ n
    → length (slice_index_or (slice_set lists i names) j []) ≤ n
at_each [] i j n names here there = there
at_each (list ∷ lists) zero zero n names here there = here
at_each (list ∷ lists) zero (suc j) n names here there = there
at_each (list ∷ lists) (suc i) zero n names here there = there
at_each (list ∷ lists) (suc i) (suc j) n names here there = at_each lists i j n names here there

one_more : (old new : List (List ℕ)) (name : List ℕ) (added : Added) (n : ℕ) → length old ≤ n → IsAdded old new name added → length new ≤ n + 1
one_more old new name (New number) n few is = omega (arith, ap length is.2, length-append old (name ∷ []))
one_more old new name (Old number) n few is = omega (arith, ap length is.1)

-- a name that is added makes no list longer by more than one
pub grows : (old new : List (List (List ℕ))) (kind : Kind) (name : List ℕ) (added : Added) (n : ℕ) → ((each : Kind) → length (names_of old each) ≤ n)
    → IsAdded (names_of old kind) (names_of new kind) name added → new ≡ with_names old kind (names_of new kind) → (each : Kind) → length (names_of new each) ≤ n + 1
grows old new kind name added n few is others each =
    let more = one_more (names_of old kind) (names_of new kind) name added n (few kind) is in
    let there : length (names_of old each) ≤ n + 1 = omega (arith, few each) in
    subst (λ lists. length (slice_index_or lists (kind_number each) []) ≤ n + 1) (sym others)
    (at_each old (kind_number kind) (kind_number each) (n + 1) (names_of new kind) more there)

abbrev no_list : List (List ℕ)
no_list = []

in_none : (kinds j : ℕ) → length (slice_index_or (replicate kinds no_list) j no_list) ≤ 0
in_none zero j = omega arith
in_none (suc kinds) zero = omega arith
in_none (suc kinds) (suc j) = in_none kinds j

pub no_names : (lists : List (List (List ℕ))) → IsEmptyOfEach lists → (each : Kind) → length (names_of lists each) ≤ 0
no_names lists none each = subst (λ l. length (slice_index_or l (kind_number each) []) ≤ 0) (sym none) (in_none 7 (kind_number each))

pub has_room : (lists : List (List (List ℕ))) (n limit : ℕ) → ((each : Kind) → length (names_of lists each) ≤ n) → n < limit → limit < 65535
    → (each : Kind) → length (names_of lists each) < 65535
has_room lists n limit few below within each = omega (arith, few each, below, within)
