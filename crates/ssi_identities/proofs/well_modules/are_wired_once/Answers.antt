use Rattle.std.proofs.Common.{arith}
use borrow.Author.Count.{below_more}
use Rattle.ssi_identities.specs.Wells.{IsWiredOnce}
use Rattle.ssi_identities.proofs.well_modules.are_wired_once.Goals as goal

pub loop-identity-preserved : goal.loop-identity-preserved
loop-identity-preserved c = below_more (IsWiredOnce c.args.plan.now c.args.kind) c.loop-identity.identity c.loop-identity.invariant (omega (arith, c.wire_count.ensures))
