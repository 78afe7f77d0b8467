use Rattle.std.proofs.Common.{◌≡◌, ℕ, ◌<◌, false}
use Rattle.std.specs.Str.{bytes_eq}
use Rattle.ssi_identities.specs.DataSets.{name_of}
use Rattle.ssi_identities.proofs.well_names.do_names_differ.Given as goal

abbrev pub invariant-loop-index : goal.invariant-loop-index
invariant-loop-index l = (k later : ℕ) → k < l.index → k < later → later < l.count → bytes_eq (name_of l.plan l.kind k) (name_of l.plan l.kind later) ≡ false
