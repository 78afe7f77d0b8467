use Rattle.std.proofs.Common.{ap, length, arith}
use Rattle.ssi_identities.proofs.Starts.{state_at_start}
use Rattle.ssi_state.proofs.state.State.start.Goals as goal

pub invariant_of-result : goal.invariant_of-result
invariant_of-result c = omega (arith, ap length c.in_ok-values.ensures, (state_at_start c.args.counts.now).facts)
