use Rattle.std.proofs.Common.{IsTrue, false, refl, sym, ◌∙◌, [], arith}
use Rattle.std.specs.Str.{bytes_eq}
use Rattle.std.proofs.lemmas.Map.Keys.{apart_from_distinct}
use Rattle.ssi_identities.proofs.Deciding.{differ_by_places}
use Rattle.ssi_identities.specs.DataSets.{names_in}
use Rattle.ssi_identities.proofs.well_names.do_names_differ.Goals as goal

pub returns-then-not-is_last : goal.returns-then-not-is_last
returns-then-not-is_last c =
    let names = names_in c.args.plan.now c.args.kind in (
      λ (never : IsTrue false). absurd cc,
      λ differ. sym c.if-not-is_last.true ∙ c.is_last.ensures.1 (λ later after within. apart_from_distinct bytes_eq names c.loop-index.index later [] differ after (omega arith)),
    )

pub returns : goal.returns
returns c = (λ ended. differ_by_places bytes_eq (names_in c.args.plan.now c.args.kind) [] (λ i j before within. c.loop-index.invariant i j (omega arith) before (omega arith)), λ differ. refl)
