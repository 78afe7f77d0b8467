use Rattle.std.proofs.Common.{◌≡◌, subst}
use Rattle.ssi_cycle.specs.Cores.{Core}
use Rattle.ssi_cycle.specs.Outputs.{output_in}
use Rattle.ssi_cycle.proofs.interlocking.Interlocking.output.Goals as goal

pub returns : goal.returns
returns c = subst (λ (core : Core). c.output.result ≡ output_in core.plan core.world.slot core.world.state) c.self.view_is c.output.ensures
