-- One fact after another is shown.
use Rattle.std.proofs.Common.{◌≡◌, ℕ, suc, zero, ◌+◌, ◌-◌, ◌<◌, ◌≤◌, Bool, true, false, List, [], ◌++◌, Option, Some, None, length, get_or, drop, refl, ap, subst, sym, ◌∙◌, arith, zero-add}
use Rattle.std.specs.List.{flat_map}
use Rattle.std.proofs.lemmas.List.{drop_all, drop_more, get_or-map}
use Rattle.std.proofs.lemmas.List.FromFn.{get_or-range_with_len}
use Rattle.std.proofs.lemmas.Option.{get_or_from_slice_get}
use Rattle.ssi_identities.specs.declared.fact.Counts.{Counts}
use Rattle.ssi_identities.specs.declared.fact.FactKind.{FactKind}
use Rattle.ssi_identities.specs.declared.fact.FactKind.TheVariants.{Reverse}
use Rattle.ssi_identities.specs.DataSets.{Plan, counts_of}
use Rattle.ssi_identities.specs.Facts.{Fact, count_of, fact_count_of, fact_number_of, facts_of, number_of_fact}
use Rattle.ssi_identities.specs.States.{IsStateOf, State, fact_total_of, truth_of}
use Rattle.ssi_identities.proofs.FactOrder.{all_facts, in_order}
use Rattle.ssi_identities.proofs.Numbering.{in_numbers}
use Rattle.ssi_state.specs.Changes.{IsFirstChange, IsNextChange, IsUnchanged}
use Rattle.ssi_script.specs.Lines.{change_of, change_text, changes_of, fact_at, fact_text}

-- ---- facts by number

-- a fact stands at its number
pub fact_is : (counts : Counts) (kind : FactKind) (index number : ℕ) → index < count_of counts kind → fact_number_of counts kind index ≡ number
    → fact_at counts number ≡ record { kind = kind; index = index }
fact_is counts kind index number within e =
    ap (fact_at counts) (sym e) ∙ get_or_from_slice_get (facts_of counts) (fact_number_of counts kind index) _ _ (in_order counts kind index within)

-- the fact with a number has that number
number_at : (counts : Counts) (i : ℕ) → i < fact_count_of counts → number_of_fact counts (fact_at counts i) ≡ i
number_at counts i within =
    let d : Fact = record { kind = Reverse; index = 0 } in
    let listed : i < length (facts_of counts) = omega (arith, all_facts counts) in
    sym (get_or-map (number_of_fact counts) (facts_of counts) i d 0 listed) ∙ ap (λ (ns : List ℕ). get_or ns i 0) (in_numbers counts) ∙ get_or-range_with_len 0 (fact_count_of counts) i 0 within ∙ zero-add i

-- ---- what is left to show

module _ (plan : Plan) (old new : State) (i : ℕ) (within : i < fact_count_of (counts_of plan)) where
  -- a fact's change is that of its value
  change_is : change_of plan old new (fact_at (counts_of plan) i) ≡ change_text plan (fact_at (counts_of plan) i) (truth_of old i) (truth_of new i)
  change_is = let same = number_at (counts_of plan) i within in ap (λ n. change_text plan (fact_at (counts_of plan) i) (truth_of old n) (truth_of new n)) same

  -- the changes from one fact on are its own and those from the next on
  changes_from : flat_map (change_of plan old new) (drop i (facts_of (counts_of plan)))
      ≡ change_text plan (fact_at (counts_of plan) i) (truth_of old i) (truth_of new i) ++ flat_map (change_of plan old new) (drop (i + 1) (facts_of (counts_of plan)))
  changes_from =
      let listed : i < length (facts_of (counts_of plan)) = omega (arith, within, all_facts (counts_of plan)) in
      ap (flat_map (change_of plan old new)) (drop_more (facts_of (counts_of plan)) i (record { kind = Reverse; index = 0 }) listed)
      ∙ ap (λ (text : List ℕ). text ++ flat_map (change_of plan old new) (drop (i + 1) (facts_of (counts_of plan)))) change_is

-- past the last fact nothing is left to write
all_shown : (plan : Plan) (old new : State) (i : ℕ) → fact_count_of (counts_of plan) ≤ i → flat_map (change_of plan old new) (drop i (facts_of (counts_of plan))) ≡ []
all_shown plan old new i past = ap (flat_map (change_of plan old new)) (drop_all i (facts_of (counts_of plan)) (omega (arith, past, all_facts (counts_of plan))))

-- ---- one fact

-- a fact whose value differs is written
differing : (plan : Plan) (fact : Fact) (before after : Bool) → ¬ (before ≡ after) → change_text plan fact before after ≡ fact_text plan fact after
differing plan fact true true e = absurd (e refl)
differing plan fact true false e = refl
differing plan fact false true e = refl
differing plan fact false false e = absurd (e refl)

-- one whose value is the same isn't
same_text : (plan : Plan) (fact : Fact) (before after : Bool) → before ≡ after → change_text plan fact before after ≡ []
same_text plan fact before true e = rw e refl
same_text plan fact before false e = rw e refl

-- ---- the next change

module _ (plan : Plan) (old new : State) (whole : IsStateOf (counts_of plan) new) where
  -- what is left to write from one fact on
  abbrev left_from : ℕ → List ℕ
  left_from i = flat_map (change_of plan old new) (drop i (facts_of (counts_of plan)))

  -- unchanged facts write nothing
  passed : (d i j : ℕ) → i + d ≡ j → j ≤ fact_total_of new → ((other : ℕ) → i ≤ other → other < j → IsUnchanged old new other) → left_from i ≡ left_from j
  passed zero i j e within same =
      let at : i ≡ j = omega (arith, e) in
      ap left_from at
  passed (suc d) i j e within same =
      let listed : i < fact_count_of (counts_of plan) = omega (arith, e, within, whole.facts) in
      let none = same_text plan (fact_at (counts_of plan) i) _ _ (same i (omega arith) (omega (arith, e))) in
      rw none at (changes_from plan old new i listed) ∙ passed d (i + 1) j (omega (arith, e)) within (λ other past. same other (omega (arith, past)))

  module _ (i fact : ℕ) (value : Bool) (next : IsFirstChange old new i fact value) where
    -- the next change is the first text that is left
    pub next_text : left_from i ≡ fact_text plan (fact_at (counts_of plan) fact) value ++ left_from (fact + 1)
    next_text =
        let listed : fact < fact_count_of (counts_of plan) = omega (arith, next.within, whole.facts) in
        let text = differing plan (fact_at (counts_of plan) fact) _ _ next.changed in
        passed (fact - i) i fact (omega (arith, next.reached)) (omega (arith, next.within)) next.none_between ∙ rw (text, ← next.value_is) at (changes_from plan old new fact listed)

  -- where there is none, nothing is left to write
  pub no_text : (i : ℕ) → i ≤ fact_total_of new → ((fact : ℕ) → i ≤ fact → IsUnchanged old new fact) → left_from i ≡ []
  no_text i within none =
      passed (fact_total_of new - i) i (fact_total_of new) (omega (arith, within)) (omega arith) (λ other past below. none other past) ∙ all_shown plan old new (fact_total_of new) (omega (arith, whole.facts))

-- the next change, once it is there
pub change_found : (old new : State) (from : ℕ) (next : Option (ℕ × Bool)) (fact : ℕ) (value : Bool) → next ≡ Some (fact, value) → IsNextChange old new from next → IsFirstChange old new from fact value
change_found old new from next fact value is change = subst (IsNextChange old new from) is change

-- no next change
pub none_found : (old new : State) (from : ℕ) (next : Option (ℕ × Bool)) → next ≡ None → IsNextChange old new from next → (fact : ℕ) → from ≤ fact → IsUnchanged old new fact
none_found old new from next is change = subst (IsNextChange old new from) is change

-- where no fact is the next change from the first on, nothing is written
pub unchanged_text : (plan : Plan) (old new : State) → IsStateOf (counts_of plan) new → (next : Option (ℕ × Bool)) → IsNextChange old new 0 next → next ≡ None → changes_of plan old new ≡ []
unchanged_text plan old new whole next change none = no_text plan old new whole 0 (omega arith) (none_found old new 0 next none change)
