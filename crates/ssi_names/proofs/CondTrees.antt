-- Trees of conditions one layer at a time: what a fold gives of each item and of a condition.
use Rattle.std.proofs.Common.{◌≡◌, ap, sym, ◌∙◌, List, map}
use Rattle.ssi_terms.specs.declared.tree.Spot.{Spot}
use Rattle.ssi_terms.specs.declared.tree.ItemTree.{ItemTree, fold-ItemTree}
use Rattle.ssi_terms.specs.declared.tree.ItemTree.TheOpen.{ItemTree-F, CondTree-F}
use Rattle.ssi_terms.specs.declared.tree.ItemTree.TheVariants.{Test, Bit, Any, rolls-Test, rolls-Bit, rolls-Any}
use Rattle.ssi_terms.specs.declared.tree.ItemTree.TheFolds.{fold-roll-ItemTree, fold-roll-CondTree}
use Rattle.ssi_terms.specs.declared.tree.CondTree.{CondTree, fold-CondTree}

-- a fold of a condition folds its items
pub tree_cond_is : (A B : Type 0) (f : ItemTree-F A B → A) (g : CondTree-F A B → B) (items : List ItemTree) → fold-CondTree A B f g (record { items = items }) ≡ g (record { items = map (fold-ItemTree A B f g) items })
tree_cond_is A B f g items = fold-roll-CondTree A B f g (record { items = items })

-- a fold of a test
pub tree_test_is : (A B : Type 0) (f : ItemTree-F A B → A) (g : CondTree-F A B → B) (name word : Spot) → fold-ItemTree A B f g (Test name word) ≡ f (ItemTree-F.Test name word)
tree_test_is A B f g name word = ap (fold-ItemTree A B f g) (sym (rolls-Test name word)) ∙ fold-roll-ItemTree A B f g (ItemTree-F.Test name word)

-- a fold of a bit
pub tree_bit_is : (A B : Type 0) (f : ItemTree-F A B → A) (g : CondTree-F A B → B) (number word : Spot) → fold-ItemTree A B f g (Bit number word) ≡ f (ItemTree-F.Bit number word)
tree_bit_is A B f g number word = ap (fold-ItemTree A B f g) (sym (rolls-Bit number word)) ∙ fold-roll-ItemTree A B f g (ItemTree-F.Bit number word)

-- a fold of a group folds its alternatives
pub tree_any_is : (A B : Type 0) (f : ItemTree-F A B → A) (g : CondTree-F A B → B) (conds : List CondTree) → fold-ItemTree A B f g (Any conds) ≡ f (ItemTree-F.Any (map (fold-CondTree A B f g) conds))
tree_any_is A B f g conds = ap (fold-ItemTree A B f g) (sym (rolls-Any conds)) ∙ fold-roll-ItemTree A B f g (ItemTree-F.Any conds)
