-- The state at the start.
use Rattle.std.proofs.Common.{◌≡◌, refl, ap, ◌∙◌, ℕ, zero, suc, ◌+◌, ◌-◌, ◌*◌, ◌<◌, Bool, true, false, List, [], ◌∷◌, ◌++◌, length, map, take, arith, append_assoc}
use Rattle.std.specs.Prelude.{replicate}
use Rattle.std.specs.List.{flat_map, range_with_len}
use Rattle.std.proofs.lemmas.List.{length-append, length-map, length-replicate, map-append, replicate-append-replicate, take_all}
use Rattle.std.proofs.lemmas.Option.{get_or_from_slice_get, slice_get-map}
use Rattle.std.specs.Option.{option_map}
use Rattle.ssi_identities.specs.declared.fact.Counts.{Counts}
use Rattle.ssi_identities.specs.declared.fact.FactKind.{FactKind}
use Rattle.ssi_identities.specs.declared.fact.FactKind.TheVariants.{Reverse, DetectedNormal, DetectedReverse, Lamp, Occupied, RouteSet, RouteBarred, Locked, FlagSet}
use Rattle.ssi_identities.specs.Facts.{Fact, count_of, fact_number_of, facts_about, facts_of, facts_of_each}
use Rattle.ssi_identities.specs.States.{IsStateOf, is_true_at_start, start_of, truth_of}
use Rattle.ssi_identities.proofs.FactOrder.{all_facts, fact, in_order}

-- a fact's value at the start
abbrev pub at_start : Fact → Bool
at_start fact = is_true_at_start fact.kind

-- the state at the start has a value for each fact
pub state_at_start : (counts : Counts) → IsStateOf counts (start_of counts)
state_at_start counts = record { facts = length-map (facts_of counts) at_start ∙ all_facts counts }

-- each fact has its kind's value at the start
pub value_at_start : (counts : Counts) (kind : FactKind) (index : ℕ) → index < count_of counts kind → truth_of (start_of counts) (fact_number_of counts kind index) ≡ is_true_at_start kind
value_at_start counts kind index within =
    let number : ℕ = fact_number_of counts kind index in
    get_or_from_slice_get (start_of counts).facts number (is_true_at_start kind) false (slice_get-map at_start (facts_of counts) number ∙ ap (option_map at_start) (in_order counts kind index within))

-- the facts of some identities on from one of them, where those of each have one value
alike_from : (kinds : List FactKind) (value : Bool) → ((index : ℕ) → map at_start (facts_about kinds index) ≡ replicate (length kinds) value) → (a count : ℕ)
    → map at_start (flat_map (facts_about kinds) (range_with_len a count)) ≡ replicate (count * length kinds) value
alike_from kinds value alike a zero = let e : zero ≡ zero * length kinds = omega arith in ap (λ n. replicate n value) e
alike_from kinds value alike a (suc count) =
    let e : length kinds + count * length kinds ≡ suc count * length kinds = omega arith in
    map-append at_start (facts_about kinds a) (flat_map (facts_about kinds) (range_with_len (a + 1) count))
    ∙ ap (λ xs. xs ++ map at_start (flat_map (facts_about kinds) (range_with_len (a + 1) count))) (alike a)
    ∙ ap (λ xs. replicate (length kinds) value ++ xs) (alike_from kinds value alike (a + 1) count)
    ∙ replicate-append-replicate (length kinds) (count * length kinds) value
    ∙ ap (λ n. replicate n value) e

-- the facts of all identities, where those of each have one value
alike : (kinds : List FactKind) (value : Bool) → ((index : ℕ) → map at_start (facts_about kinds index) ≡ replicate (length kinds) value) → (count n : ℕ) → count * length kinds ≡ n
    → map at_start (facts_of_each kinds count) ≡ replicate n value
alike kinds value same count n e = alike_from kinds value same 0 count ∙ ap (λ n. replicate n value) e

-- the values of six lists of facts
six_parts : (a b c d e g : List Fact) → map at_start (a ++ b ++ c ++ d ++ e ++ g) ≡ map at_start a ++ map at_start b ++ map at_start c ++ map at_start d ++ map at_start e ++ map at_start g
six_parts a b c d e g = simp map-append

-- false, then true, then false
three_parts : (points signals tracks routes subs flags : ℕ)
    → replicate points false ++ replicate signals false ++ replicate tracks true ++ replicate routes false ++ replicate subs false ++ replicate flags false
    ≡ replicate (points + signals) false ++ replicate tracks true ++ replicate (routes + subs + flags) false
three_parts points signals tracks routes subs flags =
    let first : List Bool = replicate (points + signals) false ++ replicate tracks true in
    rw (replicate-append-replicate points signals false, append_assoc first (replicate routes false) (replicate subs false), replicate-append-replicate routes subs false, append_assoc first (replicate (routes + subs) false) (replicate flags false), replicate-append-replicate (routes + subs) flags false) refl

-- the state at the start is false before the tracks and after them
pub start_is : (counts : Counts) → (start_of counts).facts
    ≡ replicate (3 * counts.points + counts.signals) false ++ replicate counts.tracks true ++ replicate (2 * counts.routes + counts.subs + counts.flags) false
start_is counts =
    six_parts (facts_of_each (Reverse ∷ DetectedNormal ∷ DetectedReverse ∷ []) counts.points) (facts_of_each (Lamp ∷ []) counts.signals) (facts_of_each (Occupied ∷ []) counts.tracks)
    (facts_of_each (RouteSet ∷ RouteBarred ∷ []) counts.routes) (facts_of_each (Locked ∷ []) counts.subs) (facts_of_each (FlagSet ∷ []) counts.flags)
    ∙ rw (
      alike (Reverse ∷ DetectedNormal ∷ DetectedReverse ∷ []) false (λ i. refl) counts.points (3 * counts.points) (omega arith),
      alike (Lamp ∷ []) false (λ i. refl) counts.signals counts.signals (omega arith),
      alike (Occupied ∷ []) true (λ i. refl) counts.tracks counts.tracks (omega arith),
      alike (RouteSet ∷ RouteBarred ∷ []) false (λ i. refl) counts.routes (2 * counts.routes) (omega arith),
      alike (Locked ∷ []) false (λ i. refl) counts.subs counts.subs (omega arith),
      alike (FlagSet ∷ []) false (λ i. refl) counts.flags counts.flags (omega arith),
    )
    (three_parts (3 * counts.points) counts.signals counts.tracks (2 * counts.routes) counts.subs counts.flags)

-- a list that is filled up to a length
grown : (xs ys : List Bool) (value : Bool) (n m k : ℕ) → ys ≡ take n xs ++ replicate (n - m) value → m ≡ length xs → m + k ≡ n → ys ≡ xs ++ replicate k value
grown xs ys value n m k e same more =
    let j_is : n - m ≡ k = omega arith in
    e ∙ ap (λ zs. zs ++ replicate (n - m) value) (take_all n xs (omega arith)) ∙ ap (λ j. xs ++ replicate j value) j_is

-- a list that is filled three times is three parts
pub filled : (none first second third : List Bool) (l m n a b c t k : ℕ) → none ≡ [] → first ≡ take a none ++ replicate (a - l) false → second ≡ take b first ++ replicate (b - m) true
    → third ≡ take c second ++ replicate (c - n) false → l ≡ 0 → m ≡ a → n ≡ b → a + t ≡ b → b + k ≡ c → third ≡ replicate a false ++ replicate t true ++ replicate k false
filled none first second third l m n a b c t k e f g h at_l at_m at_n more rest =
    let one : first ≡ replicate a false = grown none first false a l a f (omega (arith, at_l, ap length e)) (omega arith) ∙ ap (λ xs. xs ++ replicate a false) e in
    let two : second ≡ replicate a false ++ replicate t true = grown first second true b m t g (omega (arith, ap length one, length-replicate a false)) (omega arith) ∙ ap (λ xs. xs ++ replicate t true) one in
    grown second third false c n k h (omega (arith, ap length two, length-append (replicate a false) (replicate t true), length-replicate a false, length-replicate t true)) (omega arith) ∙ ap (λ xs. xs ++ replicate k false) two
