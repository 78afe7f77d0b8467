use Rattle.ssi_names.specs.Rows.{number_in}
use Rattle.ssi_names.proofs.Lists.{map_next}
use Rattle.ssi_names.proofs.Pins.{no_spot}
use Rattle.ssi_names.proofs.rows.numbers.Goals as goal

pub loop-spot-preserved : goal.loop-spot-preserved
loop-spot-preserved c =
    map_next (number_in c.args.text.now c.args.names.now) c.args.spots.now c.loop-spot.spot-index no_spot _ _ _ c.loop-spot-test.true c.loop-spot.invariant c.number.ensures c.in_ok-push.ensures.items
