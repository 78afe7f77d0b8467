-- Bodies one layer at a time: what a fold gives of each item and of a body, cases of an item, and induction.
use Rattle.std.proofs.Common.{◌≡◌, ap, subst, sym, ◌∙◌, List, Option, Some, None, map}
use Rattle.std.specs.List.{AllByRecursion}
use Rattle.std.specs.Option.{option_map}
use Rattle.ssi_identities.specs.declared.rule.Cmd.{Cmd}
use Rattle.ssi_identities.specs.declared.rule.Cond.{Cond}
use Rattle.ssi_identities.specs.declared.rule.BodyItem.{BodyItem, fold-BodyItem}
use Rattle.ssi_identities.specs.declared.rule.BodyItem.TheOpen.{BodyItem-F, Body-F}
use Rattle.ssi_identities.specs.declared.rule.BodyItem.TheVariants.{Do, If, rolls-Do, rolls-If}
use Rattle.ssi_identities.specs.declared.rule.BodyItem.TheFolds.{fold-roll-BodyItem, fold-roll-Body, ind-BodyItem, ind-Body, map-BodyItem, map-Body}
use Rattle.ssi_identities.specs.declared.rule.BodyItem.TheViews.{roll-BodyItem, roll-Body}
use Rattle.ssi_identities.specs.declared.rule.Body.{Body, fold-Body}
use Rattle.ssi_identities.proofs.Conditions.{With, each_of}

-- a fold of a body folds its items
pub body_is : (A B : Type 0) (f : BodyItem-F A B → A) (g : Body-F A B → B) (items : List BodyItem) → fold-Body A B f g (record { items = items }) ≡ g (record { items = map (fold-BodyItem A B f g) items })
body_is A B f g items = fold-roll-Body A B f g (record { items = items })

-- a fold of a command
pub do_is : (A B : Type 0) (f : BodyItem-F A B → A) (g : Body-F A B → B) (command : Cmd) → fold-BodyItem A B f g (Do command) ≡ f (BodyItem-F.Do command)
do_is A B f g command = ap (fold-BodyItem A B f g) (sym (rolls-Do command)) ∙ fold-roll-BodyItem A B f g (BodyItem-F.Do command)

-- a fold of a choice folds its branches
pub if_is : (A B : Type 0) (f : BodyItem-F A B → A) (g : Body-F A B → B) (guard : Cond) (body : Body) (other : Option Body) → fold-BodyItem A B f g (If guard body other) ≡ f (BodyItem-F.If guard (fold-Body A B f g body) (option_map (fold-Body A B f g) other))
if_is A B f g guard body None = ap (fold-BodyItem A B f g) (sym (rolls-If guard body None)) ∙ fold-roll-BodyItem A B f g (BodyItem-F.If guard body None)
if_is A B f g guard body (Some other) = ap (fold-BodyItem A B f g) (sym (rolls-If guard body (Some other))) ∙ fold-roll-BodyItem A B f g (BodyItem-F.If guard body (Some other))

-- what holds of every command, of a choice where it holds of its branches, and of a body where it holds of its items, holds of every body and item
module _ (P : BodyItem → Type 0) (Q : Body → Type 0)
    (at_do : (command : Cmd) → P (Do command))
    (at_if : (guard : Cond) (body : Body) → Q body → P (If guard body None))
    (at_if_else : (guard : Cond) (body other : Body) → Q body → Q other → P (If guard body (Some other)))
    (at_items : (items : List BodyItem) → AllByRecursion P items → Q (record { items = items })) where
  -- from the parts of an item to the item
  item_step : (x : BodyItem-F BodyItem Body) (y : BodyItem-F (With P) (With Q)) → map-BodyItem (With P) (With Q) BodyItem Body (λ e. e.0) (λ e. e.0) y ≡ x → P (roll-BodyItem x)
  item_step x (BodyItem-F.Do command) is = subst (λ z. P (roll-BodyItem z)) is (subst P (sym (rolls-Do command)) (at_do command))
  item_step x (BodyItem-F.If guard body None) is = subst (λ z. P (roll-BodyItem z)) is (subst P (sym (rolls-If guard body.0 None)) (at_if guard body.0 body.1))
  item_step x (BodyItem-F.If guard body (Some other)) is =
      subst (λ z. P (roll-BodyItem z)) is (subst P (sym (rolls-If guard body.0 (Some other.0))) (at_if_else guard body.0 other.0 body.1 other.1))

  -- from the items of a body to the body
  body_step : (x : Body-F BodyItem Body) (y : Body-F (With P) (With Q)) → map-Body (With P) (With Q) BodyItem Body (λ e. e.0) (λ e. e.0) y ≡ x → Q (roll-Body x)
  body_step x y is = subst (λ z. Q (roll-Body z)) is (at_items (map (λ e. e.0) y.items) (each_of P y.items))

  -- of every body
  pub body_induction : (body : Body) → Q body
  body_induction = ind-Body P Q item_step body_step

  -- of every item of a body
  pub body_item_induction : (item : BodyItem) → P item
  body_item_induction = ind-BodyItem P Q item_step body_step

-- what holds of every command and of every choice holds of every item
pub body_item_cases : (P : BodyItem → Type 0) → ((command : Cmd) → P (Do command)) → ((guard : Cond) (body : Body) (other : Option Body) → P (If guard body other)) → (item : BodyItem) → P item
body_item_cases P at_do at_if = body_item_induction P (λ body. Unit {0}) at_do (λ guard body shown. at_if guard body None) (λ guard body other shown other_shown. at_if guard body (Some other)) (λ items each. tt)
