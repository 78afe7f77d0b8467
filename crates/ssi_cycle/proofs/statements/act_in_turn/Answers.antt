use Rattle.std.proofs.Common.{◌≤◌, length, sym, ap, ◌∙◌, arith}
use Rattle.ssi_cycle.specs.Deeds.{after_deeds}
use Rattle.ssi_cycle.proofs.Slots.{none_between, slot_deeds, statement_keeps, statement_next, statement_there}
use Rattle.ssi_cycle.proofs.statements.act_in_turn.Goals as goal

pub run_body_with-requires-clause-there : goal.run_body_with-requires-clause-there
run_body_with-requires-clause-there c = statement_there c.args.image.now c.loop-number.number (omega (arith, c.min-end.ensures, c.statement_count-count.ensures))

pub loop-number-preserved : goal.loop-number-preserved
loop-number-preserved c =
    let plan = c.args.image.now in
    let reach : c.min-end.result ≤ length plan.statements = omega (arith, c.min-end.ensures, c.statement_count-count.ensures) in
    let acts = c.run_body_with.ensures.effect in
    record {
      left = sym (statement_next plan c.loop-number.number c.min-end.result c.loop-number.state c.run_body_with.new.state c.loop-number-test.true reach acts) ∙ c.loop-number.invariant.left;
      state = statement_keeps plan c.loop-number.number c.loop-number.state c.run_body_with.new.state (omega arith) acts c.loop-number.invariant.state;
      empty = c.run_body_with.ensures.empty;
    }

pub returns : goal.returns
returns c =
    let plan = c.args.image.now in
    let slot = slot_deeds plan c.statement_count-count.result c.share_of-share.result c.from.result c.min-end.result c.args.slot c.statement_count-count.ensures c.share_of-share.ensures c.from.ensures c.min-end.ensures in
    sym (none_between plan c.loop-number.number c.min-end.result c.loop-number.state c.loop-number-test.false) ∙ c.loop-number.invariant.left ∙ ap (after_deeds plan c.args.state.now) (sym slot)
