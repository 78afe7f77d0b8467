use Rattle.std.proofs.Common.{arith}
use Rattle.ssi_run.proofs.Placed.{row_place}
use Rattle.ssi_run.proofs.session.mark_next.Goals as goal

pub set-requires : goal.set-requires
set-requires c = omega (arith, (row_place c.args.image.now c.args.address c.requires.there.0 c.counts-well.ensures.well c.requires.there.1).few)
