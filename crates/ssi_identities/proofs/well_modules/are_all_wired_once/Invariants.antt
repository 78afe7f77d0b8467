use Rattle.std.proofs.Common.{ℕ, ◌<◌, length}
use Rattle.ssi_identities.specs.DataSets.{names_in}
use Rattle.ssi_identities.specs.Wells.{IsWiredOnce, wired_kind}
use Rattle.ssi_identities.proofs.well_modules.are_all_wired_once.Given as goal

abbrev pub invariant-loop-kind : goal.invariant-loop-kind
invariant-loop-kind l = (k : ℕ) → k < l.kind → (identity : ℕ) → identity < length (names_in l.plan (wired_kind k)) → IsWiredOnce l.plan k identity
