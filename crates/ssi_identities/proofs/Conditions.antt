-- Conditions one layer at a time: what a fold gives of each item and of a condition, and induction.
use Rattle.std.proofs.Common.{◌≡◌, ap, subst, sym, ◌∙◌, ℕ, Bool, List, [], ◌∷◌, map}
use Rattle.std.specs.List.{AllByRecursion}
use Rattle.ssi_identities.specs.declared.rule.CondItem.{CondItem, fold-CondItem}
use Rattle.ssi_identities.specs.declared.rule.CondItem.TheOpen.{CondItem-F, Cond-F}
use Rattle.ssi_identities.specs.declared.rule.CondItem.TheVariants.{Lit, Bit, Free, Any, rolls-Lit, rolls-Bit, rolls-Free, rolls-Any}
use Rattle.ssi_identities.specs.declared.rule.CondItem.TheFolds.{fold-roll-CondItem, fold-roll-Cond, ind-CondItem, ind-Cond, map-CondItem, map-Cond}
use Rattle.ssi_identities.specs.declared.rule.CondItem.TheViews.{roll-CondItem, roll-Cond}
use Rattle.ssi_identities.specs.declared.rule.Cond.{Cond, fold-Cond}

-- a fold of a condition folds its items
pub cond_is : (A B : Type 0) (f : CondItem-F A B → A) (g : Cond-F A B → B) (items : List CondItem) → fold-Cond A B f g (record { items = items }) ≡ g (record { items = map (fold-CondItem A B f g) items })
cond_is A B f g items = fold-roll-Cond A B f g (record { items = items })

-- a fold of a test of a fact
pub lit_is : (A B : Type 0) (f : CondItem-F A B → A) (g : Cond-F A B → B) (fact : ℕ) (wanted : Bool) → fold-CondItem A B f g (Lit fact wanted) ≡ f (CondItem-F.Lit fact wanted)
lit_is A B f g fact wanted = ap (fold-CondItem A B f g) (sym (rolls-Lit fact wanted)) ∙ fold-roll-CondItem A B f g (CondItem-F.Lit fact wanted)

-- a fold of a test of a bit
pub bit_is : (A B : Type 0) (f : CondItem-F A B → A) (g : Cond-F A B → B) (bit : ℕ) (wanted : Bool) → fold-CondItem A B f g (Bit bit wanted) ≡ f (CondItem-F.Bit bit wanted)
bit_is A B f g bit wanted = ap (fold-CondItem A B f g) (sym (rolls-Bit bit wanted)) ∙ fold-roll-CondItem A B f g (CondItem-F.Bit bit wanted)

-- a fold of a test of points that are free
pub free_is : (A B : Type 0) (f : CondItem-F A B → A) (g : Cond-F A B → B) (points : ℕ) (reverse : Bool) → fold-CondItem A B f g (Free points reverse) ≡ f (CondItem-F.Free points reverse)
free_is A B f g points reverse = ap (fold-CondItem A B f g) (sym (rolls-Free points reverse)) ∙ fold-roll-CondItem A B f g (CondItem-F.Free points reverse)

-- a fold of a group folds its alternatives
pub any_is : (A B : Type 0) (f : CondItem-F A B → A) (g : Cond-F A B → B) (conds : List Cond) → fold-CondItem A B f g (Any conds) ≡ f (CondItem-F.Any (map (fold-Cond A B f g) conds))
any_is A B f g conds = ap (fold-CondItem A B f g) (sym (rolls-Any conds)) ∙ fold-roll-CondItem A B f g (CondItem-F.Any conds)

-- a value with what is shown of it
abbrev pub With : {X : Type 0} → (X → Type 0) → Type 0
With {X} P = (x : X) × P x

-- what is shown of each of some values
pub each_of : {X : Type 0} (P : X → Type 0) (es : List (With P)) → AllByRecursion P (map (λ e. e.0) es)
each_of P [] = tt
each_of P (e ∷ es) = (e.1, each_of P es)

-- what holds of every test, of a group where it holds of its alternatives, and of a condition where it holds of its items, holds of every item and condition
module _ (P : CondItem → Type 0) (Q : Cond → Type 0)
    (at_lit : (fact : ℕ) (wanted : Bool) → P (Lit fact wanted))
    (at_bit : (bit : ℕ) (wanted : Bool) → P (Bit bit wanted))
    (at_free : (points : ℕ) (reverse : Bool) → P (Free points reverse))
    (at_any : (conds : List Cond) → AllByRecursion Q conds → P (Any conds))
    (at_items : (items : List CondItem) → AllByRecursion P items → Q (record { items = items })) where
  -- from the parts of an item to the item
  item_step : (x : CondItem-F CondItem Cond) (y : CondItem-F (With P) (With Q)) → map-CondItem (With P) (With Q) CondItem Cond (λ e. e.0) (λ e. e.0) y ≡ x → P (roll-CondItem x)
  item_step x (CondItem-F.Lit fact wanted) is = subst (λ z. P (roll-CondItem z)) is (subst P (sym (rolls-Lit fact wanted)) (at_lit fact wanted))
  item_step x (CondItem-F.Bit bit wanted) is = subst (λ z. P (roll-CondItem z)) is (subst P (sym (rolls-Bit bit wanted)) (at_bit bit wanted))
  item_step x (CondItem-F.Free points reverse) is = subst (λ z. P (roll-CondItem z)) is (subst P (sym (rolls-Free points reverse)) (at_free points reverse))
  item_step x (CondItem-F.Any conds) is = subst (λ z. P (roll-CondItem z)) is (subst P (sym (rolls-Any (map (λ e. e.0) conds))) (at_any (map (λ e. e.0) conds) (each_of Q conds)))

  -- from the items of a condition to the condition
  cond_step : (x : Cond-F CondItem Cond) (y : Cond-F (With P) (With Q)) → map-Cond (With P) (With Q) CondItem Cond (λ e. e.0) (λ e. e.0) y ≡ x → Q (roll-Cond x)
  cond_step x y is = subst (λ z. Q (roll-Cond z)) is (at_items (map (λ e. e.0) y.items) (each_of P y.items))

  -- of every condition
  pub cond_induction : (cond : Cond) → Q cond
  cond_induction = ind-Cond P Q item_step cond_step

  -- of every item of a condition
  pub cond_item_induction : (item : CondItem) → P item
  cond_item_induction = ind-CondItem P Q item_step cond_step

-- what holds of every test and of every group holds of every item
pub cond_item_cases : (P : CondItem → Type 0) → ((fact : ℕ) (wanted : Bool) → P (Lit fact wanted)) → ((bit : ℕ) (wanted : Bool) → P (Bit bit wanted)) → ((points : ℕ) (reverse : Bool) → P (Free points reverse)) → ((conds : List Cond) → P (Any conds))
    → (item : CondItem) → P item
cond_item_cases P at_lit at_bit at_free at_any = cond_item_induction P (λ cond. Unit {0}) at_lit at_bit at_free (λ conds each. at_any conds) (λ items each. tt)
