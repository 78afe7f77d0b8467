use Rattle.std.proofs.Common.{ℕ, ◌<◌}
use Rattle.ssi_identities.specs.Wells.{IsWiredOnce}
use Rattle.ssi_identities.proofs.well_modules.are_wired_once.Given as goal

abbrev pub invariant-loop-identity : goal.invariant-loop-identity
invariant-loop-identity l = (k : ℕ) → k < l.identity → IsWiredOnce l.plan l.kind k
