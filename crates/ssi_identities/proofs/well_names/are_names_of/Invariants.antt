use Rattle.std.proofs.Common.{ℕ, ◌<◌}
use Rattle.ssi_identities.specs.DataSets.{name_of}
use Rattle.ssi_identities.specs.IdentityNames.{IsNameOf}
use Rattle.ssi_identities.proofs.well_names.are_names_of.Given as goal

abbrev pub invariant-loop-index : goal.invariant-loop-index
invariant-loop-index l = (k : ℕ) → k < l.index → IsNameOf l.kind (name_of l.plan l.kind k)
