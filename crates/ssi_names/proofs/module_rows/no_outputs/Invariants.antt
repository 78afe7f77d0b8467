use Rattle.std.proofs.Common.{◌≡◌, None, replicate}
use Rattle.ssi_names.proofs.module_rows.no_outputs.Given as goal

abbrev pub invariant-loop : goal.invariant-loop
invariant-loop l = l.outputs.items ≡ replicate l.counter None
