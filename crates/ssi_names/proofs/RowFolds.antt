-- What a fold gives of the rows of conditions and bodies, by their trees.
use Rattle.std.proofs.Common.{◌≡◌, ℕ, List, map, Option, Some, None, ap, ◌∙◌}
use Rattle.std.specs.Prelude.{codes}
use Rattle.std.specs.Option.{option_map}
use Rattle.std.specs.Str.{bytes_eq}
use Rattle.std.proofs.lemmas.Simd.{map-map}
use Rattle.ssi_identities.specs.declared.fact.FactKind.{FactKind}
use Rattle.ssi_identities.specs.declared.rule.CondItem.{CondItem, fold-CondItem}
use Rattle.ssi_identities.specs.declared.rule.CondItem.TheOpen.{CondItem-F, Cond-F}
use Rattle.ssi_identities.specs.declared.rule.Cond.{Cond, fold-Cond}
use Rattle.ssi_identities.specs.declared.rule.BodyItem.{BodyItem, fold-BodyItem}
use Rattle.ssi_identities.specs.declared.rule.BodyItem.TheOpen.{BodyItem-F, Body-F}
use Rattle.ssi_identities.specs.declared.rule.Body.{Body, fold-Body}
use Rattle.ssi_identities.proofs.Conditions.{cond_is, bit_is, any_is}
use Rattle.ssi_identities.proofs.Bodies.{body_is, do_is, if_is}
use Rattle.ssi_terms.specs.declared.tree.Spot.{Spot}
use Rattle.ssi_terms.specs.declared.tree.CommandTree.{CommandTree}
use Rattle.ssi_terms.specs.declared.tree.ItemTree.TheVariants as t
use Rattle.ssi_terms.specs.declared.tree.CondTree.{CondTree}
use Rattle.ssi_terms.specs.declared.tree.PartTree.TheVariants as p
use Rattle.ssi_terms.specs.declared.tree.BodyTree.{BodyTree}
use Rattle.ssi_names.specs.BodyRows as r
use Rattle.ssi_names.specs.Texts.{characters}
use Rattle.ssi_names.proofs.BodyTrees.{tree_body_is, tree_do_is, tree_if_is}
use Rattle.ssi_names.proofs.CondTrees.{tree_cond_is, tree_test_is, tree_bit_is, tree_any_is}

module _ (text : List ℕ) (facts : FactKind → List ℕ → ℕ) (numbers : List ℕ → ℕ) where
  -- a fold of the row of a test, of a bit, of a group and of a condition
  module _ (A B : Type 0) (f : CondItem-F A B → A) (g : Cond-F A B → B) where
    pub row_of_test : (name word : Spot) → fold-CondItem A B f g (r.item_row text facts numbers (t.Test name word)) ≡ fold-CondItem A B f g (r.test_row text facts numbers name word)
    row_of_test name word = ap (fold-CondItem A B f g) (tree_test_is CondItem Cond (r.item_step text facts numbers) (r.cond_step text facts numbers) name word)

    pub row_of_bit : (bit word : Spot) → fold-CondItem A B f g (r.item_row text facts numbers (t.Bit bit word))
        ≡ f (CondItem-F.Bit (r.bit_number text facts numbers bit) (bytes_eq (characters text word) (codes "h")))
    row_of_bit bit word =
        ap (fold-CondItem A B f g) (tree_bit_is CondItem Cond (r.item_step text facts numbers) (r.cond_step text facts numbers) bit word)
        ∙ bit_is A B f g (r.bit_number text facts numbers bit) (bytes_eq (characters text word) (codes "h"))

    pub row_of_any : (conds : List CondTree) → fold-CondItem A B f g (r.item_row text facts numbers (t.Any conds))
        ≡ f (CondItem-F.Any (map (λ cond. fold-Cond A B f g (r.cond_row text facts numbers cond)) conds))
    row_of_any conds =
        ap (fold-CondItem A B f g) (tree_any_is CondItem Cond (r.item_step text facts numbers) (r.cond_step text facts numbers) conds)
        ∙ any_is A B f g (map (r.cond_row text facts numbers) conds)
        ∙ ap (λ results. f (CondItem-F.Any results)) (map-map (fold-Cond A B f g) (r.cond_row text facts numbers) conds)

    pub row_of_cond : (cond : CondTree) → fold-Cond A B f g (r.cond_row text facts numbers cond)
        ≡ g (record { items = map (λ item. fold-CondItem A B f g (r.item_row text facts numbers item)) cond.items })
    row_of_cond cond =
        ap (fold-Cond A B f g) (tree_cond_is CondItem Cond (r.item_step text facts numbers) (r.cond_step text facts numbers) cond.items)
        ∙ cond_is A B f g (map (r.item_row text facts numbers) cond.items)
        ∙ ap (λ results. g (record { items = results })) (map-map (fold-CondItem A B f g) (r.item_row text facts numbers) cond.items)

  -- a fold of the row of a command, of a choice and of a body
  module _ (A B : Type 0) (f : BodyItem-F A B → A) (g : Body-F A B → B) where
    pub row_of_do : (command : CommandTree) → fold-BodyItem A B f g (r.part_row text facts numbers (p.Do command)) ≡ f (BodyItem-F.Do (r.command_row text facts numbers command))
    row_of_do command =
        ap (fold-BodyItem A B f g) (tree_do_is BodyItem Body (r.part_step text facts numbers) (r.body_step text facts numbers) command)
        ∙ do_is A B f g (r.command_row text facts numbers command)

    pub row_of_if : (guard : CondTree) (body : BodyTree) (other : Option BodyTree) → fold-BodyItem A B f g (r.part_row text facts numbers (p.If guard body other))
        ≡ f (BodyItem-F.If (r.cond_row text facts numbers guard) (fold-Body A B f g (r.body_row text facts numbers body))
        (option_map (λ tree. fold-Body A B f g (r.body_row text facts numbers tree)) other))
    row_of_if guard body None =
        ap (fold-BodyItem A B f g) (tree_if_is BodyItem Body (r.part_step text facts numbers) (r.body_step text facts numbers) guard body None)
        ∙ if_is A B f g (r.cond_row text facts numbers guard) (r.body_row text facts numbers body) None
    row_of_if guard body (Some other) =
        ap (fold-BodyItem A B f g) (tree_if_is BodyItem Body (r.part_step text facts numbers) (r.body_step text facts numbers) guard body (Some other))
        ∙ if_is A B f g (r.cond_row text facts numbers guard) (r.body_row text facts numbers body) (Some (r.body_row text facts numbers other))

    pub row_of_body : (body : BodyTree) → fold-Body A B f g (r.body_row text facts numbers body)
        ≡ g (record { items = map (λ part. fold-BodyItem A B f g (r.part_row text facts numbers part)) body.parts })
    row_of_body body =
        ap (fold-Body A B f g) (tree_body_is BodyItem Body (r.part_step text facts numbers) (r.body_step text facts numbers) body.parts)
        ∙ body_is A B f g (map (r.part_row text facts numbers) body.parts)
        ∙ ap (λ results. g (record { items = results })) (map-map (fold-BodyItem A B f g) (r.part_row text facts numbers) body.parts)
