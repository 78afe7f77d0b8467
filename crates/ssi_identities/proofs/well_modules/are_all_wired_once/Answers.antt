use Rattle.std.proofs.Common.{ℕ, ◌<◌, IsTrue, false, refl, sym, ◌∙◌, length, arith}
use borrow.Author.Count.{below_more}
use Rattle.ssi_identities.specs.DataSets.{Plan, names_in}
use Rattle.ssi_identities.specs.Wells.{IsWiredOnce, wired_kind}
use Rattle.ssi_identities.proofs.well_modules.are_all_wired_once.Goals as goal

-- each identity of the kind is wired once
abbrev AllWired : Plan → ℕ → Type 0
AllWired plan kind = (identity : ℕ) → identity < length (names_in plan (wired_kind kind)) → IsWiredOnce plan kind identity

pub returns-then-not-are_wired_once : goal.returns-then-not-are_wired_once
returns-then-not-are_wired_once c = (λ (never : IsTrue false). absurd cc, λ wired. sym c.if-not-are_wired_once.true ∙ c.are_wired_once.ensures.1 (wired c.loop-kind.kind (omega arith)))

pub loop-kind-preserved : goal.loop-kind-preserved
loop-kind-preserved c = below_more (AllWired c.args.plan.now) c.loop-kind.kind c.loop-kind.invariant (c.are_wired_once.ensures.0 c.if-not-are_wired_once.false)

pub returns : goal.returns
returns c = (λ ended kind few. c.loop-kind.invariant kind (omega arith), λ wired. refl)
