-- Tests and commands without faults: they name what their place allows.
use Rattle.std.proofs.Common.{◌≡◌, ℕ, ◌<◌, ◌&&◌, ◌||◌, Bool, true, false, not, List, [], ◌∷◌, ◌++◌, length, min, Option, Some, None, is_some, cond, refl, ap, sym, subst, ◌∙◌, arith}
use Rattle.std.specs.Prelude.{position, nat_lt, nat_le}
use Rattle.std.specs.List.{AllByRecursion, position_or_len}
use Rattle.std.specs.Str.{bytes_eq}
use Rattle.std.proofs.lemmas.Bool.{leb-false, lt-ltb, not-false}
use Rattle.std.proofs.lemmas.Bool.Decides.{nat_tests}
use Rattle.std.proofs.lemmas.Option.{slice_get_within}
use Rattle.ssi_identities.specs.declared.fact.Counts.{Counts}
use Rattle.ssi_identities.specs.declared.fact.Kind.{Kind}
use Rattle.ssi_identities.specs.declared.fact.Kind.TheVariants.{Points, Signal, Track, Route, Subroute, Flag, Request}
use Rattle.ssi_identities.specs.declared.fact.FactKind.{FactKind}
use Rattle.ssi_identities.specs.declared.fact.FactKind.TheVariants.{Reverse, DetectedNormal, DetectedReverse, Lamp, Occupied, RouteSet, RouteBarred, Locked, FlagSet}
use Rattle.ssi_identities.specs.Allowed.{CondScope, BodyScope, item_within, cond_within, is_item_within}
use Rattle.ssi_identities.specs.Facts.{count_of, fact_count_of, fact_number_of, facts_of, identity_of}
use Rattle.ssi_identities.proofs.Conditions.{lit_is, free_is}
use Rattle.ssi_identities.proofs.FactOrder.{all_facts, fact, in_order}
use Rattle.ssi_terms.specs.declared.tree.Spot.{Spot}
use Rattle.ssi_terms.specs.declared.tree.CommandTree.{CommandTree}
use Rattle.ssi_names.specs.Bodies as f
use Rattle.ssi_names.specs.BodyRows as r
use Rattle.ssi_names.specs.Codes.{unknown, wrong_word, not_in_this_file, no_pfm, bad_pin, free_test_in_pfm}
use Rattle.ssi_names.specs.declared.rule_file.RuleFile.{RuleFile}
use Rattle.ssi_names.specs.Declarations.{Declared}
use Rattle.ssi_names.specs.NameLists.{is_among}
use Rattle.ssi_names.specs.Rows.{counts_by, number_at, fact_by_name, number_by_name}
use Rattle.ssi_names.specs.Texts.{characters, number}
use Rattle.ssi_names.specs.Words.{kind_of, facts_of_kind, said_by, fact_of_word, lie_of_word, is_test, is_fact_of_file, may_command, is_of_moves, is_of_inputs}
use Rattle.ssi_names.proofs.Distinct.{place_below}
use Rattle.ssi_names.proofs.Fine.{no_front, no_back, first_fine}

-- ---- facts by words

-- the facts of a kind are of identities of the kind
own_facts : (kind : Kind) → AllByRecursion (λ fact. identity_of fact ≡ kind) (facts_of_kind kind)
own_facts kind = elim kind as (λ k. AllByRecursion (λ fact. identity_of fact ≡ k) (facts_of_kind k)) [
  | Points ↦ (refl, (refl, (refl, tt)))
  | Signal ↦ (refl, tt)
  | Track ↦ (refl, tt)
  | Route ↦ (refl, (refl, tt))
  | Subroute ↦ (refl, tt)
  | Flag ↦ (refl, tt)
  | Request ↦ tt
]

said_is_by : (kind : Kind) (fact : FactKind) (facts : List FactKind) (word : List ℕ) (said : FactKind × Bool) (first second : Bool) → identity_of fact ≡ kind
    → (said_by facts word ≡ Some said → identity_of said.0 ≡ kind)
    → cond first (Some (fact, true)) (cond second (Some (fact, false)) (said_by facts word)) ≡ Some said → identity_of said.0 ≡ kind
said_is_by kind fact facts word said true second own rest e = let same : fact ≡ said.0 = cc in ap identity_of (sym same) ∙ own
said_is_by kind fact facts word said false true own rest e = let same : fact ≡ said.0 = cc in ap identity_of (sym same) ∙ own
said_is_by kind fact facts word said false false own rest e = rest e

-- what a word says is a fact of an identity of the kind
said_of_kind : (kind : Kind) (facts : List FactKind) (word : List ℕ) (said : FactKind × Bool) → AllByRecursion (λ fact. identity_of fact ≡ kind) facts → said_by facts word ≡ Some said
    → identity_of said.0 ≡ kind
said_of_kind kind [] word said own e = absurd cc
said_of_kind kind (fact ∷ facts) word said own e = said_is_by kind fact facts word said _ _ own.0 (said_of_kind kind facts word said own.1) e

-- so is what a word says of an identity of the kind
own_fact : (kind : Kind) (word : List ℕ) (said : FactKind × Bool) → fact_of_word kind word ≡ Some said → identity_of said.0 ≡ kind
own_fact kind word said is = said_of_kind kind (facts_of_kind kind) word said (own_facts kind) is

-- points alone are asked about for a lie
asked_points : (kind : Kind) (word : List ℕ) (lie : Bool) → lie_of_word kind word ≡ Some lie → kind ≡ Points
asked_points Points word lie e = refl
asked_points _ word lie e = absurd cc

-- as many identities have a fact as there are names of its kind
counted : (names : Kind → List (List ℕ)) (fact : FactKind) → count_of (counts_by names) fact ≡ length (names (identity_of fact))
counted names fact = elim fact as (λ k. count_of (counts_by names) k ≡ length (names (identity_of k)))
    [ Reverse ↦ refl | DetectedNormal ↦ refl | DetectedReverse ↦ refl | Lamp ↦ refl | Occupied ↦ refl | RouteSet ↦ refl | RouteBarred ↦ refl | Locked ↦ refl | FlagSet ↦ refl ]

-- the number of a fact of an identity that there is, is below the count of facts
fact_below : (counts : Counts) (kind : FactKind) (index : ℕ) → index < count_of counts kind → fact_number_of counts kind index < fact_count_of counts
fact_below counts kind index within =
    let stands = slice_get_within (facts_of counts) (fact_number_of counts kind index) (fact kind index) (in_order counts kind index within) in
    omega (arith, stands, all_facts counts)

-- a name that is there has its place
place_is : (names : List (List ℕ)) (name : List ℕ) → is_among name names ≡ true → position (bytes_eq name) names ≡ Some (position_or_len (bytes_eq name) names)
place_is names name found =
    let below = place_below names name found in
    let is : nat_lt (position_or_len (bytes_eq name) names) (length names) ≡ true = grind (arith, nat_tests) in
    rw is refl

-- ---- lines without faults

-- of two tests that don't both pass the first doesn't where the second does
first_false : (a b : Bool) → b ≡ true → (a && b) ≡ false → a ≡ false
first_false true b is e = absurd cc
first_false false b is e = refl

-- nor does the second where the first does
second_false : (a b : Bool) → a ≡ true → (a && b) ≡ false → b ≡ false
second_false true b is e = e
second_false false b is e = absurd cc

some_said : (said : Option (FactKind × Bool)) → is_some said ≡ true → (s : FactKind × Bool) × (said ≡ Some s)
some_said None e = absurd cc
some_said (Some s) e = (s, refl)

-- whether a name of a kind is one of these
abbrev pub known : (Kind → List (List ℕ)) → Kind → List ℕ → Bool
known names kind name = is_among name (names kind)

-- the number of a fact of the identity with a name
abbrev pub facts : (Kind → List (List ℕ)) → FactKind → List ℕ → ℕ
facts names = fact_by_name (counts_by names) names

-- what is declared where these are the names of each kind
abbrev pub listing : Declared → (Kind → List (List ℕ)) → Declared
listing d names = record d { is_declared = known names }

-- by what is declared, and by the names of each kind
module _ (d : Declared) (names : Kind → List (List ℕ)) where
  -- what conditions of a file may name: the facts that there are, in IPT the bits of a report, and in each file but PFM declared points with a rule for the lie
  pub record AllowsConds (file : RuleFile) (scope : CondScope) : Type 0 where
    pub facts : scope.facts ≡ fact_count_of (counts_by names)
    pub bits : is_of_inputs file ≡ true → scope.bits ≡ 8
    pub asks : (name : List ℕ) (lie : Bool) → is_of_moves file ≡ false → kind_of name ≡ Points → is_among name (names Points) ≡ true → d.has_rule name lie ≡ true
        → scope.may_ask (number_by_name names name) lie ≡ true

  -- what bodies of a file may name: in guards as conditions; and each fact of the file may be commanded
  pub record AllowsBodies (file : RuleFile) (scope : BodyScope) : Type 0 where
    pub guards : AllowsConds file scope.guards
    pub commands : (fact : FactKind) (index : ℕ) → index < count_of (counts_by names) fact → is_fact_of_file file fact ≡ true → scope.may_command (fact_number_of (counts_by names) fact index) ≡ true

  -- a declared name and a fact of its kind: the fact is one of the identity's
  fact_is : (name : List ℕ) (said : FactKind × Bool) → known names (kind_of name) name ≡ true → identity_of said.0 ≡ kind_of name
      → (index : ℕ) × (index < count_of (counts_by names) said.0) × (facts names said.0 name ≡ fact_number_of (counts_by names) said.0 index)
  fact_is name said found own =
      let kind = kind_of name in
      let long : count_of (counts_by names) said.0 ≡ length (names kind) = counted names said.0 ∙ ap (λ k. length (names k)) own in
      let place = position_or_len (bytes_eq name) (names kind) in
      (place, omega (arith, place_below (names kind) name found, long), ap (number_at (counts_by names) said.0) (place_is (names kind) name found))

  -- a name without a fault is declared
  use_known : (file : RuleFile) (others : List (Bool × ℕ)) (name : Spot) → f.named_faults (listing d names) file others name ≡ [] → known names (kind_of (characters d.text name)) (characters d.text name) ≡ true
  use_known file others name none =
      let test = known names (kind_of (characters d.text name)) (characters d.text name) in
      not-false test (first_fine name (not test) unknown others none).0

  module _ (file : RuleFile) (scope : CondScope) (allows : AllowsConds file scope) where
    -- a test of a fact that there is, or of points that have a rule for the lie
    test_by_lie : (name : List ℕ) (said : Option (FactKind × Bool)) (lie : Option Bool) → known names (kind_of name) name ≡ true
        → ((s : FactKind × Bool) → said ≡ Some s → identity_of s.0 ≡ kind_of name) → ((l : Bool) → lie ≡ Some l → kind_of name ≡ Points)
        → (is_some said || is_some lie) ≡ true → (is_of_moves file && is_some lie) ≡ false → f.lacks_rule (d.has_rule name) lie ≡ false
        → is_item_within scope (r.test_by d.text (facts names) (number_by_name names) name (r.said_of d.text (facts names) (number_by_name names) name said) lie) ≡ true
    test_by_lie name said (Some lie) found own points is elsewhere ruled =
        free_is Bool Bool (item_within scope) cond_within (number_by_name names name) lie
        ∙ allows.asks name lie (first_false (is_of_moves file) true refl elsewhere) (points lie refl) (subst (λ k. known names k name ≡ true) (points lie refl) found) (not-false (d.has_rule name lie) ruled)
    test_by_lie name None None found own points is elsewhere ruled = absurd cc
    test_by_lie name (Some s) None found own points is elsewhere ruled =
        let fact = fact_is name s found (own s refl) in
        let below = fact_below (counts_by names) s.0 fact.0 fact.1 in
        lit_is Bool Bool (item_within scope) cond_within (facts names s.0 name) s.1
        ∙ lt-ltb (facts names s.0 name) scope.facts (omega (arith, below, fact.2, allows.facts))

    -- a test without faults is allowed
    pub test_allowed : (name word : Spot) → f.test_faults (listing d names) file name word ≡ []
        → is_item_within scope (r.test_row d.text (facts names) (number_by_name names) name word) ≡ true
    test_allowed name word none =
        let called = characters d.text name in
        let kind = kind_of called in
        let said = characters d.text word in
        let lie = lie_of_word kind said in
        let before = f.named_faults (listing d names) file [] name in
        let behind = f.test_word_faults (listing d names) file called word in
        let asks = is_of_moves file && is_some lie in
        let unruled = known names kind called && f.lacks_rule (d.has_rule called) lie in
        let found = use_known file [] name (no_front before behind none) in
        let first = first_fine word (not (is_test kind said)) wrong_word ((asks, free_test_in_pfm) ∷ (unruled, no_pfm) ∷ []) (no_back before behind none) in
        let second = first_fine word asks free_test_in_pfm ((unruled, no_pfm) ∷ []) first.1 in
        let third = first_fine word unruled no_pfm [] second.1 in
        test_by_lie called (fact_of_word kind said) lie found (own_fact kind said) (asked_points kind said) (not-false (is_test kind said) first.0) second.0
        (second_false (known names kind called) (f.lacks_rule (d.has_rule called) lie) found third.0)

    -- so is a bit
    pub bit_allowed : (bit : Spot) → f.bit_faults (listing d names) file bit ≡ [] → nat_lt (r.bit_number d.text (facts names) (number_by_name names) bit) scope.bits ≡ true
    bit_allowed bit none =
        let n = number d.text bit in
        let first = first_fine bit (not (is_of_inputs file)) not_in_this_file ((nat_le 8 n, bad_pin) ∷ []) none in
        let eight = allows.bits (not-false (is_of_inputs file) first.0) in
        let below : n < 8 = leb-false 8 n (first_fine bit (nat_le 8 n) bad_pin [] first.1).0 in
        lt-ltb (min n 8) scope.bits (omega arith)

  -- a command without faults is allowed
  pub command_allowed : (file : RuleFile) (scope : BodyScope) → AllowsBodies file scope → (command : CommandTree) → f.command_faults (listing d names) file [] command ≡ []
      → scope.may_command (r.command_row d.text (facts names) (number_by_name names) command).fact ≡ true
  command_allowed file scope allows command none =
      let called = characters d.text command.name in
      let kind = kind_of called in
      let said = characters d.text command.word in
      let before = f.named_faults (listing d names) file [] command.name in
      let behind = f.command_word_faults (listing d names) file called command.word in
      let found = use_known file [] command.name (no_front before behind none) in
      let elsewhere = not (may_command file (fact_of_word kind said)) in
      let first = first_fine command.word (not (is_some (fact_of_word kind said))) wrong_word ((elsewhere, not_in_this_file) ∷ []) (no_back before behind none) in
      let second = first_fine command.word elsewhere not_in_this_file [] first.1 in
      let some = some_said (fact_of_word kind said) (not-false (is_some (fact_of_word kind said)) first.0) in
      let fact = fact_is called some.0 found (own_fact kind said some.0 some.1) in
      let allowed = ap (may_command file) (sym some.1) ∙ not-false (may_command file (fact_of_word kind said)) second.0 in
      let is = ap (λ s. (r.said_of d.text (facts names) (number_by_name names) called s).0) some.1 ∙ fact.2 in
      ap scope.may_command is ∙ allows.commands some.0.0 fact.0 fact.1 allowed
