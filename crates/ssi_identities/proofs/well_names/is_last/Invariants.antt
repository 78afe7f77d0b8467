use Rattle.std.proofs.Common.{◌≡◌, ℕ, ◌<◌, false}
use Rattle.std.specs.Str.{bytes_eq}
use Rattle.ssi_identities.specs.DataSets.{name_of}
use Rattle.ssi_identities.proofs.well_names.is_last.Given as goal

abbrev pub invariant-loop-later : goal.invariant-loop-later
invariant-loop-later l = (later : ℕ) → l.index < later → later < l.later → bytes_eq l.name (name_of l.plan l.kind later) ≡ false
