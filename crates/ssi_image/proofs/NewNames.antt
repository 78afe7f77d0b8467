-- Names that differ are all new, one after another.
use Rattle.std.proofs.Common.{◌≡◌, ℕ, zero, suc, ◌+◌, ◌<◌, ◌≤◌, true, false, List, [], ◌∷◌, ◌++◌, length, map, drop, get_or, add-one, refl, sym, ap, subst, ◌∙◌, append_assoc, length-append, arith}
use Rattle.std.specs.List.{AllByRecursion, IsDistinct}
use Rattle.std.specs.Str.{bytes_eq}
use Rattle.std.proofs.lemmas.List.{drop_more}
use Rattle.std.proofs.lemmas.Slice.Eq.{bytes_eq-Decides}
use Rattle.std.proofs.lemmas.List.Quantifiers.{position-Some}
use Rattle.ssi_identities.specs.declared.names.Added.{Added}
use Rattle.ssi_identities.specs.declared.names.Added.TheVariants.{New, Old}
use Rattle.std.specs.Prelude.{slice_set}
use Rattle.ssi_identities.specs.declared.fact.Kind.{Kind}
use Rattle.ssi_identities.specs.NameLists.{IsAdded, kind_number, with_names}

at_seam : {X : Type 0} (P : X → Type 0) (front : List X) (x : X) (back : List X) → AllByRecursion P (front ++ x ∷ back) → P x
at_seam P [] x back all = all.0
at_seam P (y ∷ front) x back all = at_seam P front x back all.1

same_differs : (x name : List ℕ) → bytes_eq x name ≡ false → bytes_eq name x ≡ true → ⊥
same_differs x name differ same =
    let equal : name ≡ x = (bytes_eq-Decides name x).0 same in
    let true_too : bytes_eq x name ≡ true = (bytes_eq-Decides x name).1 (sym equal) in
    cc

-- a name is none of those before it
not_before : (front back : List (List ℕ)) (name : List ℕ) (i : ℕ) → IsDistinct bytes_eq (front ++ name ∷ back) → i < length front → bytes_eq name (get_or front i []) ≡ true → ⊥
unfolding IsDistinct
not_before [] back name i differ within same = absurd (omega arith)
not_before (x ∷ front) back name zero differ within same = same_differs x name (at_seam (λ y. bytes_eq x y ≡ false) front name back differ.0) same
not_before (x ∷ front) back name (suc i) differ within same = not_before front back name i differ.1 (omega arith) same

-- a name behind those that differ from it is appended to them
pub appended : (front back after : List (List ℕ)) (name : List ℕ) (added : Added) → IsDistinct bytes_eq (front ++ name ∷ back) → IsAdded front after name added → after ≡ front ++ name ∷ []
appended front back after name (New n) differ is = is.2
appended front back after name (Old n) differ is =
    let found = position-Some (bytes_eq name) front n [] is.0 in
    absurd (not_before front back name n differ found.0 found.1)

-- so what is left of the names is less by it
pub one_less : (front back after all : List (List ℕ)) (name : List ℕ) (added : Added) → IsDistinct bytes_eq all → front ++ name ∷ back ≡ all → IsAdded front after name added → after ++ back ≡ all
one_less front back after all name added differ parts is =
    let new = appended front back after name added (subst (IsDistinct bytes_eq) (sym parts) differ) is in
    ap (λ names. names ++ back) new ∙ append_assoc front (name ∷ []) back ∙ parts

-- there is room for one more
pub room : (front back all : List (List ℕ)) → front ++ back ≡ all → length all ≤ 1024 → length front < 65535
room front back all parts few = omega (arith, length-append front back, ap length parts, few)

-- one name on
pub next_name : (all : List (List ℕ)) (i : ℕ) (name : List ℕ) (front after : List (List ℕ)) (added : Added) → i < length all → name ≡ get_or all i [] → IsDistinct bytes_eq all → front ++ drop i all ≡ all
    → IsAdded front after name added → after ++ drop (i + 1) all ≡ all
next_name all i name front after added within is differ parts new =
    let here : front ++ name ∷ drop (i + 1) all ≡ all = ap (λ x. front ++ x ∷ drop (i + 1) all) is ∙ ap (λ rest. front ++ rest) (sym (drop_more all i [] within)) ∙ parts in
    one_less front (drop (i + 1) all) after all name added differ here new

set_again : {X : Type 0} (xs : List X) (n : ℕ) (x y : X) → slice_set (slice_set xs n x) n y ≡ slice_set xs n y
set_again [] n x y = refl
set_again (z ∷ xs) zero x y = refl
set_again (z ∷ xs) (suc n) x y = ap (λ ys. z ∷ ys) (set_again xs n x y)

-- the names of the other kinds stay as they were
pub others_stay : (first now after : List (List (List ℕ))) (kind : Kind) (before names : List (List ℕ)) → now ≡ with_names first kind before → after ≡ with_names now kind names → after ≡ with_names first kind names
others_stay first now after kind before names so_far more = more ∙ ap (λ lists. with_names lists kind names) so_far ∙ set_again first (kind_number kind) before names
