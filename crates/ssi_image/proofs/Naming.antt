-- Names of a packed data set.
use Rattle.std.proofs.Common.{◌≡◌, ℕ, List, [], ◌∷◌, map, Option, Some, None, zero, suc, refl, ap, sym, ◌∙◌}
use Rattle.std.specs.Prelude.{slice_get, slice_index_or}
use Rattle.std.proofs.lemmas.Simd.{map-map}
use Rattle.ssi_identities.specs.declared.fact.Kind.{Kind}
use Rattle.ssi_identities.specs.declared.fact.Kind.TheVariants.{Points, Signal, Track, Route, Subroute, Flag, Request}
use Rattle.ssi_identities.specs.DataSets.{PointsPlan, RoutePlan, SubPlan, Plan, names_in, name_of}
use Rattle.ssi_identities.specs.declared.data_set.RequestRow.{RequestRow}
use Rattle.ssi_image.specs.Packed.{Packed, PackedPoints, PackedRequest, packed_of, packed_names, packed_points, packed_request}

-- a packed data set has the names of the data set
pub same_names : (plan : Plan) (kind : Kind) → packed_names (packed_of plan) kind ≡ names_in plan kind
same_names plan kind = elim kind as (λ k. packed_names (packed_of plan) k ≡ names_in plan k) [
  | Points ↦ map-map (λ (row : PackedPoints). row.name) packed_points plan.points
  | Signal ↦ refl
  | Track ↦ refl
  | Route ↦ refl
  | Subroute ↦ refl
  | Flag ↦ refl
  | Request ↦ map-map (λ (row : PackedRequest). row.name) packed_request plan.requests
]

found : (names : List (List ℕ)) (n : ℕ) (name : List ℕ) → slice_get names n ≡ Some name → slice_index_or names n [] ≡ name
found [] n name is = absurd cc
found (x ∷ xs) zero name is = cc
found (x ∷ xs) (suc n) name is = found xs n name is

missed : (names : List (List ℕ)) (n : ℕ) → slice_get names n ≡ None → slice_index_or names n [] ≡ []
missed [] n is = refl
missed (x ∷ xs) zero is = absurd cc
missed (x ∷ xs) (suc n) is = missed xs n is

-- the name that was found is the identity's
pub name_found : (packed : Packed) (a plan : Plan) (kind : Kind) (n : ℕ) (name : List ℕ) → packed ≡ packed_of a → a ≡ plan → Some name ≡ slice_get (packed_names packed kind) n → name ≡ name_of plan kind n
name_found packed a plan kind n name is same at =
    sym (found (names_in plan kind) n name (ap (λ names. slice_get names n) (sym (same_names plan kind) ∙ ap (λ p. packed_names (packed_of p) kind) (sym same) ∙ ap (λ p. packed_names p kind) (sym is)) ∙ sym at))

-- where none was found, there is no such identity
pub name_missed : (packed : Packed) (a plan : Plan) (kind : Kind) (n : ℕ) → packed ≡ packed_of a → a ≡ plan → None ≡ slice_get (packed_names packed kind) n → [] ≡ name_of plan kind n
name_missed packed a plan kind n is same at =
    sym (missed (names_in plan kind) n (ap (λ names. slice_get names n) (sym (same_names plan kind) ∙ ap (λ p. packed_names (packed_of p) kind) (sym same) ∙ ap (λ p. packed_names p kind) (sym is)) ∙ sym at))
