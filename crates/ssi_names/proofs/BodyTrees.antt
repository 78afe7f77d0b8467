-- Trees of bodies one layer at a time: what a fold gives of each part and of a body.
use Rattle.std.proofs.Common.{◌≡◌, ap, sym, ◌∙◌, List, Option, Some, None, map}
use Rattle.std.specs.Option.{option_map}
use Rattle.ssi_terms.specs.declared.tree.CommandTree.{CommandTree}
use Rattle.ssi_terms.specs.declared.tree.CondTree.{CondTree}
use Rattle.ssi_terms.specs.declared.tree.PartTree.{PartTree, fold-PartTree}
use Rattle.ssi_terms.specs.declared.tree.PartTree.TheOpen.{PartTree-F, BodyTree-F}
use Rattle.ssi_terms.specs.declared.tree.PartTree.TheVariants.{Do, If, rolls-Do, rolls-If}
use Rattle.ssi_terms.specs.declared.tree.PartTree.TheFolds.{fold-roll-PartTree, fold-roll-BodyTree}
use Rattle.ssi_terms.specs.declared.tree.BodyTree.{BodyTree, fold-BodyTree}

-- a fold of a body folds its items
pub tree_body_is : (A B : Type 0) (f : PartTree-F A B → A) (g : BodyTree-F A B → B) (items : List PartTree) → fold-BodyTree A B f g (record { parts = items }) ≡ g (record { parts = map (fold-PartTree A B f g) items })
tree_body_is A B f g items = fold-roll-BodyTree A B f g (record { parts = items })

-- a fold of a command
pub tree_do_is : (A B : Type 0) (f : PartTree-F A B → A) (g : BodyTree-F A B → B) (command : CommandTree) → fold-PartTree A B f g (Do command) ≡ f (PartTree-F.Do command)
tree_do_is A B f g command = ap (fold-PartTree A B f g) (sym (rolls-Do command)) ∙ fold-roll-PartTree A B f g (PartTree-F.Do command)

-- a fold of a choice folds its branches
pub tree_if_is : (A B : Type 0) (f : PartTree-F A B → A) (g : BodyTree-F A B → B) (guard : CondTree) (body : BodyTree) (other : Option BodyTree) → fold-PartTree A B f g (If guard body other) ≡ f (PartTree-F.If guard (fold-BodyTree A B f g body) (option_map (fold-BodyTree A B f g) other))
tree_if_is A B f g guard body None = ap (fold-PartTree A B f g) (sym (rolls-If guard body None)) ∙ fold-roll-PartTree A B f g (PartTree-F.If guard body None)
tree_if_is A B f g guard body (Some other) = ap (fold-PartTree A B f g) (sym (rolls-If guard body (Some other))) ∙ fold-roll-PartTree A B f g (PartTree-F.If guard body (Some other))
