use Rattle.std.proofs.Common.{subst, IsTrue, false, refl, sym, ◌∙◌, [], arith}
use Rattle.std.proofs.lemmas.List.Elements.{All-from_get_or, All-get_or}
use Rattle.ssi_identities.specs.DataSets.{names_in}
use Rattle.ssi_identities.specs.IdentityNames.{IsNameOf}
use Rattle.ssi_identities.proofs.well_names.are_names_of.Goals as goal

pub returns-then-not-is_name_of : goal.returns-then-not-is_name_of
returns-then-not-is_name_of c =
    let kind = c.args.kind in
    let names = names_in c.args.plan.now kind in (
      λ (never : IsTrue false). absurd cc,
      λ each. sym c.if-not-is_name_of.true ∙ c.is_name_of.ensures.1 (subst (IsNameOf kind) (sym c.name.ensures) (All-get_or (IsNameOf kind) names c.loop-index.index [] (omega arith) each)),
    )

pub returns : goal.returns
returns c = (λ ended. All-from_get_or (IsNameOf c.args.kind) (names_in c.args.plan.now c.args.kind) [] (λ i within. c.loop-index.invariant i (omega arith)), λ each. refl)
