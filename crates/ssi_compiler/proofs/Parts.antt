-- A part of some code isn't longer than the whole.
use Rattle.std.proofs.Common.{◌≡◌, ℕ, ◌+◌, ◌<◌, ◌≤◌, List, length, map, slice_index_or, ap, ◌∙◌, arith}
use Rattle.std.specs.List.{concat}
use Rattle.std.proofs.lemmas.List.Concat.{concat_is}
use Rattle.std.proofs.lemmas.List.Folds.{flat_map-map, length-flat_map-take}
use Rattle.std.proofs.lemmas.Simd.{map-map}
use Rattle.ssi_identities.specs.declared.rule.Body.{Body}
use Rattle.ssi_identities.specs.declared.rule.BodyItem.{BodyItem}
use Rattle.ssi_identities.specs.declared.rule.Cond.{Cond}
use Rattle.ssi_identities.specs.declared.rule.CondItem.{CondItem}
use Rattle.ssi_identities.specs.Codes.{with_length, item_code, cond_code, code_of_item, code_of_cond, part_code, body_code, code_of_part, code_of_body}
use Rattle.ssi_identities.proofs.Conditions.{cond_is}
use Rattle.ssi_identities.proofs.Bodies.{body_is}

-- of pieces one after another
part_short : {X : Type 0} (f : X → List ℕ) (xs : List X) (n : ℕ) (x : X) → n < length xs → x ≡ slice_index_or xs n x → length (f x) ≤ length (concat (map f xs))
part_short f xs n x few is =
    omega (arith, length-flat_map-take f xs n x few, ap (λ y. length (f y)) is, ap length (concat_is (map f xs) ∙ flat_map-map (λ piece. piece) f xs))

-- an item of a condition
pub item_short : (cond : Cond) (items : List CondItem) (n : ℕ) (item : CondItem) → items ≡ cond.items → n < length items → item ≡ slice_index_or items n item → length (code_of_item item) ≤ length (code_of_cond cond)
item_short cond items n item are few is =
    omega (arith, part_short code_of_item items n item few is, ap (λ (xs : List CondItem). length (concat (map code_of_item xs))) are, ap length (cond_is (List ℕ) (List ℕ) item_code cond_code cond.items))

-- an item of a body
pub body_item_short : (body : Body) (items : List BodyItem) (n : ℕ) (item : BodyItem) → items ≡ body.items → n < length items → item ≡ slice_index_or items n item → length (code_of_part item) ≤ length (code_of_body body)
body_item_short body items n item are few is =
    omega (arith, part_short code_of_part items n item few is, ap (λ (xs : List BodyItem). length (concat (map code_of_part xs))) are, ap length (body_is (List ℕ) (List ℕ) part_code body_code body.items))

-- an alternative with its length
pub alternative_short : (conds : List Cond) (n : ℕ) (cond : Cond) → n < length conds → cond ≡ slice_index_or conds n cond → length (code_of_cond cond) + 4 ≤ length (concat (map with_length (map code_of_cond conds)))
alternative_short conds n cond few is =
    omega (arith, part_short (λ (alternative : Cond). with_length (code_of_cond alternative)) conds n cond few is, ap (λ (pieces : List (List ℕ)). length (concat pieces)) (map-map with_length code_of_cond conds))
