-- The parts of a minor cycle together.
use Rattle.std.proofs.Common.{◌≡◌, List, ◌++◌, ap, sym, subst, ◌∙◌}
use Rattle.ssi_identities.specs.declared.fact.Counts.{Counts}
use Rattle.ssi_identities.specs.DataSets.{Plan}
use Rattle.ssi_identities.specs.States.{IsStateOf, State}
use Rattle.ssi_cycle.specs.Deeds.{Deed, after_deeds}
use Rattle.ssi_cycle.proofs.Changing.{deeds_lead, deeds_more}

module _ (plan : Plan) (first second third : List Deed) (old reported stated served : State) (reports : reported ≡ after_deeds plan old first) (states : stated ≡ after_deeds plan reported second)
    (serves : served ≡ after_deeds plan stated third) where
  -- three parts, each from the state that the one before it has left
  pub parts_done : served ≡ after_deeds plan old (first ++ second ++ third)
  parts_done =
      serves
      ∙ ap (λ state. after_deeds plan state third) (states ∙ ap (λ state. after_deeds plan state second) reports ∙ sym (deeds_more plan old first second))
      ∙ sym (deeds_more plan old (first ++ second) third)

  -- they leave a state of the layout
  pub parts_keep : (counts : Counts) → IsStateOf counts old → IsStateOf counts served
  parts_keep counts of = subst (IsStateOf counts) (sym parts_done) ((deeds_lead counts plan old (first ++ second ++ third)).keeps of)
