-- The request that is taken.
use Rattle.std.proofs.Common.{◌≡◌, ℕ, ◌<◌, List, [], ◌∷◌, length, get_or, Some, refl, ap, sym, subst, ◌∙◌, arith}
use Rattle.std.specs.Prelude.{All, slice_get}
use Rattle.std.proofs.lemmas.List.Elements.{All-get_or}
use Rattle.std.proofs.lemmas.Option.{slice_get-get_or}
use Rattle.ssi_identities.specs.declared.data_set.RequestRow.{RequestRow}
use Rattle.ssi_identities.specs.declared.rule.Body.{Body}
use Rattle.ssi_identities.specs.DataSets.{Plan}
use Rattle.ssi_identities.specs.States.{State}
use Rattle.ssi_identities.specs.Steps.{body_of, effect_of}
use Rattle.ssi_image.specs.declared.places.BodyAt.TheVariants.{Request}
use Rattle.ssi_image.specs.Places.{body_at}
use Rattle.ssi_cycle.specs.Deeds.{after_deeds}
use Rattle.ssi_cycle.specs.Deeds.Deed.{Acts}
use Rattle.ssi_cycle.specs.Requests.{deeds_of_request, deeds_of_row, taken_of}

-- a request that does nothing
no_request : RequestRow
no_request = record { name = []; body = body_of [] }

module _ (plan : Plan) (waiting : List ℕ) (request : ℕ × ℕ) (there : All (λ request. request < length plan.requests) waiting) (taken : taken_of waiting ≡ Some request) where
  is_there : (waiting : List ℕ) → All (λ request. request < length plan.requests) waiting → taken_of waiting ≡ Some request → request.1 < length plan.requests
  is_there [] all is = absurd cc
  is_there (oldest ∷ others) all is =
      let same : (0, oldest) ≡ request = cc in
      subst (λ (r : ℕ × ℕ). r.1 < length plan.requests) same (All-get_or (λ request. request < length plan.requests) (oldest ∷ others) 0 0 (omega arith) all)

  row_is : slice_get plan.requests request.1 ≡ Some (get_or plan.requests request.1 no_request)
  row_is = slice_get-get_or plan.requests request.1 no_request (is_there waiting there taken)

  -- its deed is the only one
  deeds_are : deeds_of_request plan (taken_of waiting) ≡ Acts (get_or plan.requests request.1 no_request).body 0 ∷ []
  deeds_are = ap (deeds_of_request plan) taken ∙ ap deeds_of_row row_is

  -- its body acts
  pub request_acts : (old new : State) → ((body : Body) → body_at plan (Request request.1) ≡ Some body → new ≡ effect_of plan body old 0) → new ≡ after_deeds plan old (deeds_of_request plan (taken_of waiting))
  request_acts old new acts = acts (get_or plan.requests request.1 no_request).body (rw row_is refl) ∙ sym (ap (after_deeds plan old) deeds_are)
