use Rattle.std.proofs.Common.{arith}
use Rattle.ssi_eval.specs.CondCodes.{reading_of}
use Rattle.ssi_eval.proofs.Walking.{room}
use Rattle.ssi_eval.proofs.Starting.{cond_fits, cond_starts, same_stack, answered}
use Rattle.ssi_eval.proofs.free.value.Goals as goal

pub ask-init : goal.ask-init
ask-init c = λ scope cond is. cond_starts c.args.image.now scope cond c.args.state.now c.args.report c.args.stack.now.items c.of-level.result c.args.code.now is c.of-level.ensures.items c.of-level.ensures.others

pub walk-requires-clause-on : goal.walk-requires-clause-on
walk-requires-clause-on c =
    let k = c.requires.code in
    record {
      reading = reading_of c.args.image.now k.scope k.cond c.args.state.now c.args.report c.args.stack.now.items;
      fits = cond_fits c.args.image.now k.scope k.cond c.args.state.now c.args.report c.len-base.result c.args.stack.now.items c.args.code.now c.requires.well c.requires.state k.is c.len-base.ensures.value;
      on = c.ask.invariant k.scope k.cond k.is;
    }

pub returns-in-Value-clause-value : goal.returns-in-Value-clause-value
returns-in-Value-clause-value c = λ scope cond is.
    let fits = cond_fits c.args.image.now scope cond c.args.state.now c.args.report c.len-base.result c.args.stack.now.items c.args.code.now c.requires.well c.requires.state is c.len-base.ensures.value in
    (c.in-Value.ensures.turn (reading_of c.args.image.now scope cond c.args.state.now c.args.report c.args.stack.now.items) fits (c.ask.invariant scope cond is)).0

pub returns-in-Value-clause-stack : goal.returns-in-Value-clause-stack
returns-in-Value-clause-stack c =
    let k = c.requires.code in
    let fits = cond_fits c.args.image.now k.scope k.cond c.args.state.now c.args.report c.len-base.result c.args.stack.now.items c.args.code.now c.requires.well c.requires.state k.is c.len-base.ensures.value in
    same_stack _ _ (c.in-Value.ensures.turn (reading_of c.args.image.now k.scope k.cond c.args.state.now c.args.report c.args.stack.now.items) fits (c.ask.invariant k.scope k.cond k.is)).1

pub is_free-value-requires-clause-room : goal.is_free-value-requires-clause-room
is_free-value-requires-clause-room c =
    let k = c.requires.code in
    let fits = cond_fits c.args.image.now k.scope k.cond c.args.state.now c.args.report c.len-base.result c.args.stack.now.items c.args.code.now c.requires.well c.requires.state k.is c.len-base.ensures.value in
    let asks = c.in-Asks.ensures.turn (reading_of c.args.image.now k.scope k.cond c.args.state.now c.args.report c.args.stack.now.items) fits (c.ask.invariant k.scope k.cond k.is) in
    omega (arith, c.requires.room, c.len-base.ensures.value, room _ c.len-base.result c.args.state.now c.args.report fits c.walk.new.stack.items c.in-Asks.asking _ asks.1)

pub is_free-value-requires-clause-known : goal.is_free-value-requires-clause-known
is_free-value-requires-clause-known c =
    let k = c.requires.code in
    let fits = cond_fits c.args.image.now k.scope k.cond c.args.state.now c.args.report c.len-base.result c.args.stack.now.items c.args.code.now c.requires.well c.requires.state k.is c.len-base.ensures.value in
    k.is.scope_in.points c.in-Asks.points c.in-Asks.reverse (c.in-Asks.ensures.turn (reading_of c.args.image.now k.scope k.cond c.args.state.now c.args.report c.args.stack.now.items) fits (c.ask.invariant k.scope k.cond k.is)).0

pub ask-preserved : goal.ask-preserved
ask-preserved c = λ scope cond is.
    let fits = cond_fits c.args.image.now scope cond c.args.state.now c.args.report c.len-base.result c.args.stack.now.items c.args.code.now c.requires.well c.requires.state is c.len-base.ensures.value in
    let reading = reading_of c.args.image.now scope cond c.args.state.now c.args.report c.args.stack.now.items in
    let asks = c.in-Asks.ensures.turn reading fits (c.ask.invariant scope cond is) in
    answered reading c.walk.new.stack.items c.is_free-value.new.stack.items c.in-Asks.asking _ c.is_free-value.result c.is_free-value.ensures.stack c.is_free-value.ensures.value asks.1
