use Rattle.std.proofs.Common.{◌∙◌, ap, length, length-append, sym, subst, arith}
use Rattle.std.specs.List.{sum_by}
use Rattle.std.specs.Prelude.{reverse}
use Rattle.std.proofs.lemmas.List.{length-reverse}
use Rattle.std.proofs.lemmas.List.Sums.{sum_by_push}
use Rattle.ssi_identities.specs.DataSets.{counts_of}
use Rattle.ssi_identities.specs.States.{IsStateOf}
use Rattle.ssi_identities.proofs.States.{keeps_with_truth}
use Rattle.ssi_eval.specs.Frames.{bytes_left}
use Rattle.ssi_eval.proofs.BodyFronts.{kind_at}
use Rattle.ssi_eval.proofs.Choices.{is_nil, is_some_left}
use Rattle.ssi_eval.proofs.Running.{starts, finished, left, begins, set_long, set_known, set_read, if_begins, choice_read, branch_short, if_read, aside, empty_of}
use Rattle.ssi_eval.proofs.body.run.Goals as goal

pub run-init : goal.run-init
run-init c = record {
  state = c.requires.state;
  on = λ scope body is. starts c.args.image.now scope c.args.report body c.args.code.now c.args.stack.now.items c.args.state.now c.requires.empty is;
}

pub returns-in_default-clause-effect : goal.returns-in_default-clause-effect
returns-in_default-clause-effect c = λ scope body is. finished c.args.image.now scope c.args.report c.run.items.now c.run.stack.items c.run.state _ (empty_of c.run.stack.items c.in_default.ensures.variant.1) (is_nil _ _ c.is_empty.ensures c.if-is_empty.true) (c.run.invariant.on scope body is)

pub run-preserved-then-is_empty : goal.run-preserved-then-is_empty
run-preserved-then-is_empty c = record {
  state = c.run.invariant.state;
  on = λ scope body is. left c.args.image.now scope c.args.report c.run.items.now c.run.stack.items c.pop.new.self.items c.in-Some.outer c.run.state _ c.in-Some.ensures.items (is_nil _ _ c.is_empty.ensures c.if-is_empty.true) (c.run.invariant.on scope body is);
}

pub body_op-op-requires : goal.body_op-op-requires
body_op-op-requires c =
    let k = c.requires.code in
    begins c.args.image.now k.scope k.is.scope_in c.args.report (reverse c.run.stack.items) c.run.state _ c.run.items.now (is_some_left _ _ c.is_empty.ensures c.if-is_empty.false) (c.run.invariant.on k.scope k.body k.is)

pub number-fact-requires : goal.number-fact-requires
number-fact-requires c =
    let k = c.requires.code in
    let at = kind_at c.args.image.now k.scope k.is.scope_in c.args.report (reverse c.run.stack.items) c.run.state _ c.run.items.now c.body_op-op.result.1.now c.body_op-op.result.0 _ c.body_op-op.ensures c.in-Set.is (c.run.invariant.on k.scope k.body k.is) in
    set_long c.args.image.now k.scope k.is.scope_in c.args.report (reverse c.run.stack.items) c.run.state _ c.body_op-op.result.1.now _ at

pub set-requires : goal.set-requires
set-requires c =
    let k = c.requires.code in
    let at = kind_at c.args.image.now k.scope k.is.scope_in c.args.report (reverse c.run.stack.items) c.run.state _ c.run.items.now c.body_op-op.result.1.now c.body_op-op.result.0 _ c.body_op-op.ensures c.in-Set.is (c.run.invariant.on k.scope k.body k.is) in
    omega (arith, c.run.invariant.state.facts, set_known c.args.image.now k.scope k.is.scope_in c.args.report (reverse c.run.stack.items) c.run.state _ c.body_op-op.result.1.now c.number-fact.result.0 c.number-fact.result.1.now _ c.requires.well c.number-fact.ensures.value at)

pub run-preserved-in-Set : goal.run-preserved-in-Set
run-preserved-in-Set c = record {
  state = subst (IsStateOf (counts_of c.args.image.now)) (sym c.set.ensures) (keeps_with_truth (counts_of c.args.image.now) c.run.state c.number-fact.result.0 c.in-Set.value c.run.invariant.state);
  on = λ scope body is.
      let at = kind_at c.args.image.now scope is.scope_in c.args.report (reverse c.run.stack.items) c.run.state _ c.run.items.now c.body_op-op.result.1.now c.body_op-op.result.0 _ c.body_op-op.ensures c.in-Set.is (c.run.invariant.on scope body is) in
      set_read c.args.image.now scope is.scope_in c.args.report (reverse c.run.stack.items) c.run.state _ c.body_op-op.result.1.now c.number-fact.result.0 c.number-fact.result.1.now c.in-Set.value c.set.new.self c.requires.well c.number-fact.ensures.value c.set.ensures at;
}

pub piece-requires : goal.piece-requires
piece-requires c =
    let k = c.requires.code in
    let at = kind_at c.args.image.now k.scope k.is.scope_in c.args.report (reverse c.run.stack.items) c.run.state _ c.run.items.now c.body_op-op.result.1.now c.body_op-op.result.0 _ c.body_op-op.ensures c.in-If.is (c.run.invariant.on k.scope k.body k.is) in
    if_begins c.args.image.now k.scope k.is.scope_in c.args.report (reverse c.run.stack.items) c.run.state _ c.body_op-op.result.1.now at

-- no body has more than eight levels round the one that acts
pub set_aside-requires : goal.set_aside-requires
set_aside-requires c =
    let k = c.requires.code in
    let at = kind_at c.args.image.now k.scope k.is.scope_in c.args.report (reverse c.run.stack.items) c.run.state _ c.run.items.now c.body_op-op.result.1.now c.body_op-op.result.0 _ c.body_op-op.ensures c.in-If.is (c.run.invariant.on k.scope k.body k.is) in
    omega (arith, at.room, length-reverse c.run.stack.items)

pub branch-items-requires-clause-room : goal.branch-items-requires-clause-room
branch-items-requires-clause-room c =
    let k = c.requires.code in
    let at = kind_at c.args.image.now k.scope k.is.scope_in c.args.report (reverse c.run.stack.items) c.run.state _ c.run.items.now c.body_op-op.result.1.now c.body_op-op.result.0 _ c.body_op-op.ensures c.in-If.is (c.run.invariant.on k.scope k.body k.is) in
    omega (arith, at.room, length-reverse c.run.stack.items, ap length c.set_aside.ensures, length-append c.run.stack.items)

pub branch-items-requires-clause-choice : goal.branch-items-requires-clause-choice
branch-items-requires-clause-choice c =
    let k = c.requires.code in
    let at = kind_at c.args.image.now k.scope k.is.scope_in c.args.report (reverse c.run.stack.items) c.run.state _ c.run.items.now c.body_op-op.result.1.now c.body_op-op.result.0 _ c.body_op-op.ensures c.in-If.is (c.run.invariant.on k.scope k.body k.is) in
    choice_read c.args.image.now k.scope k.is.scope_in c.args.report (reverse c.run.stack.items) c.run.state _ c.body_op-op.result.1.now at c.piece.result.0.now c.piece.result.1.now c.piece.ensures

pub run-smaller : goal.run-smaller
run-smaller c =
    let k = c.requires.code in
    let at = kind_at c.args.image.now k.scope k.is.scope_in c.args.report (reverse c.run.stack.items) c.run.state _ c.run.items.now c.body_op-op.result.1.now c.body_op-op.result.0 _ c.body_op-op.ensures c.in-If.is (c.run.invariant.on k.scope k.body k.is) in
    let short = branch_short c.args.image.now k.scope k.is.scope_in c.args.report (reverse c.run.stack.items) c.run.state _ c.body_op-op.result.1.now at c.piece.result.0.now c.piece.result.1.now c.piece.ensures c.branch-items.result.now c.branch-items.ensures.code in
    omega (arith, short, ap length c.body_op-op.ensures, ap (sum_by bytes_left) (c.branch-items.ensures.stack ∙ c.set_aside.ensures), sum_by_push bytes_left c.run.stack.items, ap length (c.branch-items.ensures.stack ∙ c.set_aside.ensures), length-append c.run.stack.items, ap length c.of.ensures.items, ap length c.of.ensures.others)

pub run-preserved : goal.run-preserved
run-preserved c = record {
  state = c.run.invariant.state;
  on = λ scope body is.
      let at = kind_at c.args.image.now scope is.scope_in c.args.report (reverse c.run.stack.items) c.run.state _ c.run.items.now c.body_op-op.result.1.now c.body_op-op.result.0 _ c.body_op-op.ensures c.in-If.is (c.run.invariant.on scope body is) in
      let on = if_read c.args.image.now scope is.scope_in c.args.report (reverse c.run.stack.items) c.run.state _ c.body_op-op.result.1.now at c.piece.result.0.now c.piece.result.1.now c.piece.ensures c.branch-items.result.now c.branch-items.ensures.code c.of.result c.of.ensures.items in
      aside c.args.image.now scope c.args.report c.branch-items.result.now c.run.stack.items c.branch-items.new.stack.items c.of.result c.run.state _ (c.branch-items.ensures.stack ∙ c.set_aside.ensures) on;
}
