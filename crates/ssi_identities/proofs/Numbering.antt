-- The facts in their order have the numbers in theirs.
use Rattle.std.proofs.Common.{◌≡◌, refl, ap, ◌∙◌, ℕ, zero, suc, ◌+◌, ◌*◌, List, [], ◌∷◌, ◌++◌, arith}
use Rattle.std.specs.Prelude.{map}
use Rattle.std.specs.List.{flat_map, range_with_len}
use Rattle.std.proofs.lemmas.List.{map-append}
use Rattle.ssi_identities.specs.declared.fact.Counts.{Counts}
use Rattle.ssi_identities.specs.declared.fact.FactKind.{FactKind}
use Rattle.ssi_identities.specs.declared.fact.FactKind.TheVariants.{Reverse, DetectedNormal, DetectedReverse, Lamp, Occupied, RouteSet, RouteBarred, Locked, FlagSet}
use Rattle.ssi_identities.specs.Facts.{Fact, fact_count_of, facts_about, facts_of, facts_of_each, first_of_routes, number_of_fact}

-- numbers in order go on with those after them
ranges : (a m b n : ℕ) → b ≡ a + m → range_with_len a m ++ range_with_len b n ≡ range_with_len a (m + n)
ranges a zero b n e = let same : b ≡ a = omega arith in let none : zero + n ≡ n = omega arith in rw (same, none) refl
ranges a (suc m) b n e = let more : suc m + n ≡ suc (m + n) = omega arith in rw more (ap (λ (xs : List ℕ). a ∷ xs) (ranges (a + 1) m b n (omega arith)))

-- pieces of one length, each with the numbers of its place, have the numbers in order
numbers_each : (g : Fact → ℕ) (f : ℕ → List Fact) (base k : ℕ) → ((i : ℕ) → map g (f i) ≡ range_with_len (base + i * k) k) → (a n : ℕ)
    → map g (flat_map f (range_with_len a n)) ≡ range_with_len (base + a * k) (n * k)
numbers_each g f base k is a zero = let none : 0 * k ≡ 0 = omega arith in rw none refl
numbers_each g f base k is a (suc n) =
    let count : suc n * k ≡ k + n * k = omega arith in
    map-append g (f a) (flat_map f (range_with_len (a + 1) n))
    ∙ rw (is a, numbers_each g f base k is (a + 1) n, count) (ranges (base + a * k) k (base + (a + 1) * k) (n * k) (omega arith))

one_number : (a b : ℕ) → a ≡ b → a ∷ [] ≡ range_with_len b 1
one_number a b e = ap (λ n. n ∷ []) e

two_numbers : (a b c : ℕ) → a ≡ c → b ≡ c + 1 → a ∷ b ∷ [] ≡ range_with_len c 2
two_numbers a b c e f = rw (e, f) refl

three_numbers : (a b c d : ℕ) → a ≡ d → b ≡ d + 1 → c ≡ d + 1 + 1 → a ∷ b ∷ c ∷ [] ≡ range_with_len d 3
three_numbers a b c d e f g = rw (e, f, g) refl

module _ (counts : Counts) where
  abbrev Numbers : List FactKind → ℕ → ℕ → ℕ → Type 0
  Numbers kinds count base n = map (number_of_fact counts) (facts_of_each kinds count) ≡ range_with_len base n

  of_points : Numbers (Reverse ∷ DetectedNormal ∷ DetectedReverse ∷ []) counts.points 0 (counts.points * 3)
  of_points =
      numbers_each (number_of_fact counts) (facts_about (Reverse ∷ DetectedNormal ∷ DetectedReverse ∷ [])) 0 3
      (λ i. three_numbers (3 * i) (3 * i + 1) (3 * i + 2) (0 + i * 3) (omega arith) (omega arith) (omega arith)) 0 counts.points

  of_signals : Numbers (Lamp ∷ []) counts.signals (3 * counts.points) (counts.signals * 1)
  of_signals =
      let base : 3 * counts.points + 0 * 1 ≡ 3 * counts.points = omega arith in
      rw base at (numbers_each (number_of_fact counts) (facts_about (Lamp ∷ [])) (3 * counts.points) 1 (λ i. one_number (3 * counts.points + i) (3 * counts.points + i * 1) (omega arith)) 0 counts.signals)

  of_tracks : Numbers (Occupied ∷ []) counts.tracks (3 * counts.points + counts.signals) (counts.tracks * 1)
  of_tracks =
      let first = 3 * counts.points + counts.signals in
      let base : first + 0 * 1 ≡ first = omega arith in
      rw base at (numbers_each (number_of_fact counts) (facts_about (Occupied ∷ [])) first 1 (λ i. one_number (first + i) (first + i * 1) (omega arith)) 0 counts.tracks)

  of_routes : Numbers (RouteSet ∷ RouteBarred ∷ []) counts.routes (first_of_routes counts) (counts.routes * 2)
  of_routes =
      let first = first_of_routes counts in
      let base : first + 0 * 2 ≡ first = omega arith in
      rw base at (numbers_each (number_of_fact counts) (facts_about (RouteSet ∷ RouteBarred ∷ [])) first 2 (λ i. two_numbers (first + 2 * i) (first + 2 * i + 1) (first + i * 2) (omega arith) (omega arith)) 0 counts.routes)

  of_subs : Numbers (Locked ∷ []) counts.subs (first_of_routes counts + 2 * counts.routes) (counts.subs * 1)
  of_subs =
      let first = first_of_routes counts + 2 * counts.routes in
      let base : first + 0 * 1 ≡ first = omega arith in
      rw base at (numbers_each (number_of_fact counts) (facts_about (Locked ∷ [])) first 1 (λ i. one_number (first + i) (first + i * 1) (omega arith)) 0 counts.subs)

  of_flags : Numbers (FlagSet ∷ []) counts.flags (first_of_routes counts + 2 * counts.routes + counts.subs) (counts.flags * 1)
  of_flags =
      let first = first_of_routes counts + 2 * counts.routes + counts.subs in
      let base : first + 0 * 1 ≡ first = omega arith in
      rw base at (numbers_each (number_of_fact counts) (facts_about (FlagSet ∷ [])) first 1 (λ i. one_number (first + i) (first + i * 1) (omega arith)) 0 counts.flags)

  -- numbers in order, and more facts
  and_more : (before more : List Fact) (m b n k : ℕ) → map (number_of_fact counts) before ≡ range_with_len 0 m → map (number_of_fact counts) more ≡ range_with_len b n → b ≡ m → k ≡ m + n
      → map (number_of_fact counts) (before ++ more) ≡ range_with_len 0 k
  and_more before more m b n k e f at all = map-append (number_of_fact counts) before more ∙ rw (e, f, all) (ranges 0 m b n (omega arith))

  -- the facts in their order have the numbers from 0 on
  pub in_numbers : map (number_of_fact counts) (facts_of counts) ≡ range_with_len 0 (fact_count_of counts)
  in_numbers =
      let signals = and_more _ _ (counts.points * 3) (3 * counts.points) (counts.signals * 1) (3 * counts.points + counts.signals) of_points of_signals (omega arith) (omega arith) in
      let tracks = and_more _ _ (3 * counts.points + counts.signals) (3 * counts.points + counts.signals) (counts.tracks * 1) (first_of_routes counts) signals of_tracks refl (omega arith) in
      let routes = and_more _ _ (first_of_routes counts) (first_of_routes counts) (counts.routes * 2) (first_of_routes counts + 2 * counts.routes) tracks of_routes refl (omega arith) in
      let subs = and_more _ _ (first_of_routes counts + 2 * counts.routes) (first_of_routes counts + 2 * counts.routes) (counts.subs * 1) (first_of_routes counts + 2 * counts.routes + counts.subs) routes of_subs refl (omega arith) in
      and_more _ _ (first_of_routes counts + 2 * counts.routes + counts.subs) (first_of_routes counts + 2 * counts.routes + counts.subs) (counts.flags * 1) (fact_count_of counts) subs of_flags refl (omega arith)
