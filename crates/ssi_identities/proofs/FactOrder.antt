-- The facts in their order.
use Rattle.std.proofs.Common.{◌≡◌, refl, ap, sym, ◌∙◌, ℕ, zero, suc, ◌+◌, ◌*◌, ◌<◌, List, [], ◌∷◌, ◌++◌, length, Some, arith}
use Rattle.std.specs.Prelude.{slice_get}
use Rattle.std.specs.List.{flat_map, range_with_len}
use Rattle.std.proofs.lemmas.List.{length-append}
use Rattle.ssi_identities.specs.declared.fact.Counts.{Counts}
use Rattle.ssi_identities.specs.declared.fact.FactKind.{FactKind}
use Rattle.ssi_identities.specs.declared.fact.FactKind.TheVariants.{Reverse, DetectedNormal, DetectedReverse, Lamp, Occupied, RouteSet, RouteBarred, Locked, FlagSet}
use Rattle.ssi_identities.specs.Facts.{Fact, count_of, fact_count_of, fact_number_of, facts_about, facts_of, facts_of_each, first_of_routes}

-- the fact of a kind and an identity
abbrev pub fact : FactKind → ℕ → Fact
fact kind index = record { kind = kind; index = index }

-- what stands in a list stands there when more comes after it
pub in_first : {X : Type 0} (xs ys : List X) (i : ℕ) (x : X) → slice_get xs i ≡ Some x → slice_get (xs ++ ys) i ≡ Some x
in_first [] ys i x at = absurd cc
in_first (y ∷ xs) ys zero x at = at
in_first (y ∷ xs) ys (suc i) x at = in_first xs ys i x at

-- past the end of a list the one after it begins
after_first : {X : Type 0} (xs ys : List X) (i : ℕ) → slice_get (xs ++ ys) (length xs + i) ≡ slice_get ys i
after_first [] ys i = ap (slice_get ys) (omega arith)
after_first (x ∷ xs) ys i = let e : suc (length xs) + i ≡ suc (length xs + i) = omega arith in rw e (after_first xs ys i)

-- what stands in a list stands so much further on when others come before it
pub in_second : {X : Type 0} (xs ys : List X) (i j : ℕ) (x : X) → slice_get ys i ≡ Some x → length xs + i ≡ j → slice_get (xs ++ ys) j ≡ Some x
in_second xs ys i j x at e = ap (slice_get (xs ++ ys)) (sym e) ∙ after_first xs ys i ∙ at

-- pieces of one length, as many times as long
length_each : {X : Type 0} (f : ℕ → List X) (k : ℕ) → ((i : ℕ) → length (f i) ≡ k) → (a n : ℕ) → length (flat_map f (range_with_len a n)) ≡ n * k
length_each f k is a zero = omega arith
length_each f k is a (suc n) = omega (arith, length-append (f a) (flat_map f (range_with_len (a + 1) n)), is a, length_each f k is (a + 1) n)

-- what stands in a piece stands after the pieces before it
in_each : {X : Type 0} (f : ℕ → List X) (k : ℕ) → ((i : ℕ) → length (f i) ≡ k) → (a n i p : ℕ) (x : X) → i < n → slice_get (f (a + i)) p ≡ Some x → slice_get (flat_map f (range_with_len a n)) (i * k + p) ≡ Some x
in_each f k is a zero i p x within at = absurd (omega arith)
in_each f k is a (suc n) zero p x within at =
    let here : slice_get (f a) p ≡ Some x = ap (λ j. slice_get (f j) p) (omega arith) ∙ at in
    ap (slice_get (flat_map f (range_with_len a (suc n)))) (omega arith) ∙ in_first (f a) (flat_map f (range_with_len (a + 1) n)) p x here
in_each f k is a (suc n) (suc i) p x within at =
    let there : slice_get (f (a + 1 + i)) p ≡ Some x = ap (λ j. slice_get (f j) p) (omega arith) ∙ at in
    in_second (f a) (flat_map f (range_with_len (a + 1) n)) (i * k + p) (suc i * k + p) x (in_each f k is (a + 1) n i p x (omega arith) there) (omega (arith, is a))

-- an identity has a fact for each kind
length_about : (kinds : List FactKind) (index : ℕ) → length (facts_about kinds index) ≡ length kinds
length_about [] index = refl
length_about (kind ∷ kinds) index = ap suc (length_about kinds index)

-- how many facts so many identities have
length_facts : (kinds : List FactKind) (count : ℕ) → length (facts_of_each kinds count) ≡ count * length kinds
length_facts kinds count = length_each (facts_about kinds) (length kinds) (length_about kinds) 0 count

-- where a fact stands among those of its kind of identity
in_facts : (kinds : List FactKind) (count index place number : ℕ) (fact : Fact) → index < count → slice_get (facts_about kinds index) place ≡ Some fact → index * length kinds + place ≡ number
    → slice_get (facts_of_each kinds count) number ≡ Some fact
in_facts kinds count index place number fact within at e =
    let here : slice_get (facts_about kinds (0 + index)) place ≡ Some fact = ap (λ j. slice_get (facts_about kinds j) place) (omega arith) ∙ at in
    ap (slice_get (facts_of_each kinds count)) (sym e) ∙ in_each (facts_about kinds) (length kinds) (length_about kinds) 0 count index place fact within here

-- the facts of points, and of what comes after them, up to each kind of identity
abbrev pub to_points : Counts → List Fact
to_points counts = facts_of_each (Reverse ∷ DetectedNormal ∷ DetectedReverse ∷ []) counts.points

abbrev pub to_signals : Counts → List Fact
to_signals counts = to_points counts ++ facts_of_each (Lamp ∷ []) counts.signals

abbrev pub to_tracks : Counts → List Fact
to_tracks counts = to_signals counts ++ facts_of_each (Occupied ∷ []) counts.tracks

abbrev pub to_routes : Counts → List Fact
to_routes counts = to_tracks counts ++ facts_of_each (RouteSet ∷ RouteBarred ∷ []) counts.routes

abbrev pub to_subs : Counts → List Fact
to_subs counts = to_routes counts ++ facts_of_each (Locked ∷ []) counts.subs

-- how many facts there are up to each kind of identity
length_points : (counts : Counts) → length (to_points counts) ≡ 3 * counts.points
length_points counts = omega (arith, length_facts (Reverse ∷ DetectedNormal ∷ DetectedReverse ∷ []) counts.points)

length_signals : (counts : Counts) → length (to_signals counts) ≡ 3 * counts.points + counts.signals
length_signals counts = omega (arith, length-append (to_points counts) (facts_of_each (Lamp ∷ []) counts.signals), length_points counts, length_facts (Lamp ∷ []) counts.signals)

length_tracks : (counts : Counts) → length (to_tracks counts) ≡ first_of_routes counts
length_tracks counts = omega (arith, length-append (to_signals counts) (facts_of_each (Occupied ∷ []) counts.tracks), length_signals counts, length_facts (Occupied ∷ []) counts.tracks)

length_routes : (counts : Counts) → length (to_routes counts) ≡ first_of_routes counts + 2 * counts.routes
length_routes counts = omega (arith, length-append (to_tracks counts) (facts_of_each (RouteSet ∷ RouteBarred ∷ []) counts.routes), length_tracks counts, length_facts (RouteSet ∷ RouteBarred ∷ []) counts.routes)

length_subs : (counts : Counts) → length (to_subs counts) ≡ first_of_routes counts + 2 * counts.routes + counts.subs
length_subs counts = omega (arith, length-append (to_routes counts) (facts_of_each (Locked ∷ []) counts.subs), length_routes counts, length_facts (Locked ∷ []) counts.subs)

-- there are as many facts as their count says
pub all_facts : (counts : Counts) → length (facts_of counts) ≡ fact_count_of counts
all_facts counts = omega (arith, length-append (to_subs counts) (facts_of_each (FlagSet ∷ []) counts.flags), length_subs counts, length_facts (FlagSet ∷ []) counts.flags)

-- what stands up to a kind of identity stands there among all facts
by_subs : (counts : Counts) (number : ℕ) (fact : Fact) → slice_get (to_subs counts) number ≡ Some fact → slice_get (facts_of counts) number ≡ Some fact
by_subs counts number fact = in_first (to_subs counts) (facts_of_each (FlagSet ∷ []) counts.flags) number fact

by_routes : (counts : Counts) (number : ℕ) (fact : Fact) → slice_get (to_routes counts) number ≡ Some fact → slice_get (facts_of counts) number ≡ Some fact
by_routes counts number fact at = by_subs counts number fact (in_first (to_routes counts) (facts_of_each (Locked ∷ []) counts.subs) number fact at)

by_tracks : (counts : Counts) (number : ℕ) (fact : Fact) → slice_get (to_tracks counts) number ≡ Some fact → slice_get (facts_of counts) number ≡ Some fact
by_tracks counts number fact at = by_routes counts number fact (in_first (to_tracks counts) (facts_of_each (RouteSet ∷ RouteBarred ∷ []) counts.routes) number fact at)

by_signals : (counts : Counts) (number : ℕ) (fact : Fact) → slice_get (to_signals counts) number ≡ Some fact → slice_get (facts_of counts) number ≡ Some fact
by_signals counts number fact at = by_tracks counts number fact (in_first (to_signals counts) (facts_of_each (Occupied ∷ []) counts.tracks) number fact at)

by_points : (counts : Counts) (number : ℕ) (fact : Fact) → slice_get (to_points counts) number ≡ Some fact → slice_get (facts_of counts) number ≡ Some fact
by_points counts number fact at = by_signals counts number fact (in_first (to_points counts) (facts_of_each (Lamp ∷ []) counts.signals) number fact at)

-- the facts of points
of_points : (counts : Counts) (kind : FactKind) (index place number : ℕ) → index < counts.points → slice_get (facts_about (Reverse ∷ DetectedNormal ∷ DetectedReverse ∷ []) index) place ≡ Some (fact kind index)
    → 3 * index + place ≡ number → slice_get (facts_of counts) number ≡ Some (fact kind index)
of_points counts kind index place number within at e = by_points counts number (fact kind index) (in_facts (Reverse ∷ DetectedNormal ∷ DetectedReverse ∷ []) counts.points index place number (fact kind index) within at (omega arith))

-- the facts of routes
of_routes : (counts : Counts) (kind : FactKind) (index place number : ℕ) → index < counts.routes → slice_get (facts_about (RouteSet ∷ RouteBarred ∷ []) index) place ≡ Some (fact kind index)
    → first_of_routes counts + (2 * index + place) ≡ number → slice_get (facts_of counts) number ≡ Some (fact kind index)
of_routes counts kind index place number within at e =
    let kinds : List FactKind = RouteSet ∷ RouteBarred ∷ [] in
    let there = in_facts kinds counts.routes index place (2 * index + place) (fact kind index) within at (omega arith) in
    by_routes counts number (fact kind index) (in_second (to_tracks counts) (facts_of_each kinds counts.routes) (2 * index + place) number (fact kind index) there (omega (arith, length_tracks counts)))

-- a kind of which an identity has this one fact
alone : (kind : FactKind) (count index : ℕ) → index < count → slice_get (facts_of_each (kind ∷ []) count) index ≡ Some (fact kind index)
alone kind count index within = in_facts (kind ∷ []) count index 0 index (fact kind index) within refl (omega arith)

-- each fact stands at its number
pub in_order : (counts : Counts) (kind : FactKind) (index : ℕ) → index < count_of counts kind → slice_get (facts_of counts) (fact_number_of counts kind index) ≡ Some (fact kind index)
in_order counts Reverse index within = of_points counts Reverse index 0 (3 * index) within refl (omega arith)
in_order counts DetectedNormal index within = of_points counts DetectedNormal index 1 (3 * index + 1) within refl refl
in_order counts DetectedReverse index within = of_points counts DetectedReverse index 2 (3 * index + 2) within refl refl
in_order counts Lamp index within =
    by_signals counts (fact_number_of counts Lamp index) (fact Lamp index) (in_second (to_points counts) _ index _ _ (alone Lamp counts.signals index within) (omega (arith, length_points counts)))
in_order counts Occupied index within =
    by_tracks counts (fact_number_of counts Occupied index) (fact Occupied index) (in_second (to_signals counts) _ index _ _ (alone Occupied counts.tracks index within) (omega (arith, length_signals counts)))
in_order counts RouteSet index within = of_routes counts RouteSet index 0 (fact_number_of counts RouteSet index) within refl (omega arith)
in_order counts RouteBarred index within = of_routes counts RouteBarred index 1 (fact_number_of counts RouteBarred index) within refl (omega arith)
in_order counts Locked index within =
    by_subs counts (fact_number_of counts Locked index) (fact Locked index) (in_second (to_routes counts) _ index _ _ (alone Locked counts.subs index within) (omega (arith, length_routes counts)))
in_order counts FlagSet index within = in_second (to_subs counts) _ index _ _ (alone FlagSet counts.flags index within) (omega (arith, length_subs counts))
