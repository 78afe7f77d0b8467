use Rattle.ssi_eval.proofs.HandMade.{hand_reading}
use Rattle.ssi_eval.proofs.tests.value.Goals as goal

pub walk-requires-clause-on : goal.walk-requires-clause-on
walk-requires-clause-on c =
    let h = hand_reading c.args.state.now c.args.report c.new-stack.result.items c.of.result c.args.code.now c.requires.facts c.requires.code c.new-stack.ensures c.of.ensures.items c.of.ensures.others in
    record { reading = h.reading; fits = h.fits; on = h.on }

pub unreachable-requires : goal.unreachable-requires
unreachable-requires c =
    let h = hand_reading c.args.state.now c.args.report c.new-stack.result.items c.of.result c.args.code.now c.requires.facts c.requires.code c.new-stack.ensures c.of.ensures.items c.of.ensures.others in
    h.asks_none _ _ (c.in-Asks.ensures.turn h.reading h.fits h.on).0
