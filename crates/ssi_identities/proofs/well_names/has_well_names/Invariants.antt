use Rattle.std.proofs.Common.{ℕ, ◌<◌, get_or}
use Rattle.ssi_identities.specs.declared.fact.Kind.{Kind}
use Rattle.ssi_identities.specs.Wells.{HasWellNames}
use Rattle.ssi_identities.proofs.well_names.has_well_names.Given as goal

abbrev pub invariant-loop-kind : goal.invariant-loop-kind
invariant-loop-kind l = (k : ℕ) (d : Kind) → k < l.kind-index → HasWellNames l.plan (get_or l.kind-items k d)
