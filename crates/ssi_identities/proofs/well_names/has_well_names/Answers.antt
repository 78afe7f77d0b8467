use Rattle.std.proofs.Common.{refl, arith}
use Rattle.ssi_identities.specs.declared.fact.Kind.TheVariants.{Points, Signal, Track, Route, Subroute, Flag, Request}
use Rattle.ssi_identities.specs.Wells.{HasWellNames}
use Rattle.ssi_identities.proofs.well_names.has_well_names.Goals as goal

pub returns : goal.returns
returns c = let each = c.loop-kind.invariant in (
  λ ended kind. elim kind as (λ k. HasWellNames c.args.plan.now k) [
    | Points ↦ each 0 Points (omega arith)
    | Signal ↦ each 1 Points (omega arith)
    | Track ↦ each 2 Points (omega arith)
    | Route ↦ each 3 Points (omega arith)
    | Subroute ↦ each 4 Points (omega arith)
    | Flag ↦ each 5 Points (omega arith)
    | Request ↦ each 6 Points (omega arith)
  ],
  λ well. refl,
)
