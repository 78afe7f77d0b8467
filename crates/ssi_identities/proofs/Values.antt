-- The laws of values, item by item.
use Rattle.std.proofs.Common.{◌≡◌, refl, ap, sym, ◌∙◌, ℕ, Bool, true, false, ◌&&◌, ◌||◌, List, [], ◌∷◌, map}
use Rattle.std.specs.List.{list_all, list_any}
use Rattle.std.proofs.lemmas.List.Folds.{list_all-map}
use Rattle.ssi_identities.specs.declared.rule.CondItem.{CondItem}
use Rattle.ssi_identities.specs.declared.rule.CondItem.TheVariants.{Lit, Bit, Free, Any}
use Rattle.ssi_identities.specs.declared.rule.Cond.{Cond}
use Rattle.ssi_identities.specs.DataSets.{Plan}
use Rattle.ssi_identities.specs.States.{State, truth_of}
use Rattle.ssi_identities.specs.Values.{Scene, bit_of, cond_of, cond_value, holds_in, is_as_wanted, is_free, item_holds, item_value, scene_of}
use Rattle.ssi_identities.proofs.Conditions.{any_is, bit_is, cond_is, free_is, lit_is}

-- a test of a fact
pub lit_holds : (scene : Scene) (fact : ℕ) (wanted : Bool) → item_holds scene (Lit fact wanted) ≡ is_as_wanted (truth_of scene.state fact) wanted
lit_holds scene fact wanted = lit_is Bool Bool (item_value scene) cond_value fact wanted

-- a test of a bit
pub bit_holds : (scene : Scene) (bit : ℕ) (wanted : Bool) → item_holds scene (Bit bit wanted) ≡ is_as_wanted (scene.bits bit) wanted
bit_holds scene bit wanted = bit_is Bool Bool (item_value scene) cond_value bit wanted

-- a test of points that are free
pub free_holds : (scene : Scene) (points : ℕ) (reverse : Bool) → item_holds scene (Free points reverse) ≡ scene.free points reverse
free_holds scene points reverse = free_is Bool Bool (item_value scene) cond_value points reverse

-- whether one of some conditions holds, by their values
one_of_values : (scene : Scene) (conds : List Cond) → list_any (λ holds. holds) (map (holds_in scene) conds) ≡ list_any (holds_in scene) conds
one_of_values scene [] = refl
one_of_values scene (cond ∷ conds) = ap (λ holds. holds_in scene cond || holds) (one_of_values scene conds)

-- a group holds where one of its alternatives does
pub group_holds : (scene : Scene) (conds : List Cond) → item_holds scene (Any conds) ≡ list_any (holds_in scene) conds
group_holds scene conds = any_is Bool Bool (item_value scene) cond_value conds ∙ one_of_values scene conds

-- a condition holds where all of its items do
pub all_hold : (scene : Scene) (items : List CondItem) → holds_in scene (cond_of items) ≡ list_all (item_holds scene) items
all_hold scene items = cond_is Bool Bool (item_value scene) cond_value items ∙ list_all-map (λ holds. holds) (item_holds scene) items

-- no item
pub holds_of_none : (scene : Scene) → holds_in scene (cond_of []) ≡ true
holds_of_none scene = all_hold scene []

-- an item with items after it
pub holds_of_items : (scene : Scene) (item : CondItem) (items : List CondItem) → holds_in scene (cond_of (item ∷ items)) ≡ (item_holds scene item && holds_in scene (cond_of items))
holds_of_items scene item items = all_hold scene (item ∷ items) ∙ ap (λ holds. item_holds scene item && holds) (sym (all_hold scene items))

-- no alternative
pub group_of_none : (scene : Scene) → item_holds scene (Any []) ≡ false
group_of_none scene = group_holds scene []

-- an alternative with others after it
pub group_of_more : (scene : Scene) (cond : Cond) (conds : List Cond) → item_holds scene (Any (cond ∷ conds)) ≡ (holds_in scene cond || item_holds scene (Any conds))
group_of_more scene cond conds = group_holds scene (cond ∷ conds) ∙ ap (λ holds. holds_in scene cond || holds) (sym (group_holds scene conds))

-- a test of a report's bit, in a data set
pub bit_of_report : (plan : Plan) (state : State) (report bit : ℕ) (wanted : Bool) → item_holds (scene_of plan state report) (Bit bit wanted) ≡ is_as_wanted (bit_of report bit) wanted
bit_of_report plan state report bit wanted = bit_holds (scene_of plan state report) bit wanted

-- a test of points that are free, in a data set
pub free_in : (plan : Plan) (state : State) (report points : ℕ) (reverse : Bool) → item_holds (scene_of plan state report) (Free points reverse) ≡ is_free plan state report points reverse
free_in plan state report points reverse = free_holds (scene_of plan state report) points reverse

-- a condition of one test of a fact
pub fact_holds : (scene : Scene) (fact : ℕ) (wanted : Bool) → holds_in scene (cond_of (Lit fact wanted ∷ [])) ≡ (is_as_wanted (truth_of scene.state fact) wanted && true)
fact_holds scene fact wanted = all_hold scene (Lit fact wanted ∷ []) ∙ ap (λ holds. holds && true) (lit_holds scene fact wanted)
