use Rattle.std.proofs.Common.{◌∙◌}
use Rattle.ssi_eval.proofs.Starting.{move_reading, same_stack}
use Rattle.ssi_eval.proofs.free.may_move.Goals as goal

pub walk-requires-clause-on : goal.walk-requires-clause-on
walk-requires-clause-on c =
    let m = move_reading c.args.image.now c.args.state.now c.args.report c.args.points c.args.reverse c.len-base.result c.args.stack.now.items c.of.result c.in-Some.code.now c.move_code.ensures.well c.requires.state c.in-Some.ensures.code c.len-base.ensures.value c.of.ensures.items c.of.ensures.others in
    record { reading = m.reading; fits = m.fits; on = m.on }

pub unreachable-requires : goal.unreachable-requires
unreachable-requires c =
    let m = move_reading c.args.image.now c.args.state.now c.args.report c.args.points c.args.reverse c.len-base.result c.args.stack.now.items c.of.result c.in-Some.code.now c.move_code.ensures.well c.requires.state c.in-Some.ensures.code c.len-base.ensures.value c.of.ensures.items c.of.ensures.others in
    m.asks_none _ _ (c.in-Asks.ensures.turn m.reading m.fits m.on).0

pub returns-clause-value : goal.returns-clause-value
returns-clause-value c =
    let m = move_reading c.args.image.now c.args.state.now c.args.report c.args.points c.args.reverse c.len-base.result c.args.stack.now.items c.of.result c.in-Some.code.now c.move_code.ensures.well c.requires.state c.in-Some.ensures.code c.len-base.ensures.value c.of.ensures.items c.of.ensures.others in
    (c.in-Value.ensures.turn m.reading m.fits m.on).0 ∙ m.result

pub returns-clause-stack : goal.returns-clause-stack
returns-clause-stack c =
    let m = move_reading c.args.image.now c.args.state.now c.args.report c.args.points c.args.reverse c.len-base.result c.args.stack.now.items c.of.result c.in-Some.code.now c.move_code.ensures.well c.requires.state c.in-Some.ensures.code c.len-base.ensures.value c.of.ensures.items c.of.ensures.others in
    same_stack _ _ ((c.in-Value.ensures.turn m.reading m.fits m.on).1 ∙ m.under)
