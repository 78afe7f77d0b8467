use Rattle.std.proofs.Common.{◌∙◌, sym, true}
use Rattle.ssi_identities.specs.Values.{value_of}
use Rattle.ssi_eval.proofs.Choices.{guard_read, then_taken, none_taken, begins_else, else_taken, is_nil, is_some_left}
use Rattle.ssi_eval.proofs.body.branch.Goals as goal

pub returns-then-value-clause-code : goal.returns-then-value-clause-code
returns-then-value-clause-code c = λ scope guard then_body else_body is.
    then_taken c.args.image.now scope guard then_body else_body c.args.choice.now is c.piece.result.0.now c.piece.result.1.now c.piece.ensures c.piece-2.result.0.now c.piece-2.result.1.now c.piece-2.ensures (value_of c.args.image.now guard c.args.state.now c.args.report) (sym (c.value.ensures.value scope.guards guard (guard_read c.args.image.now scope guard then_body else_body c.args.choice.now is c.piece.result.0.now c.piece.result.1.now c.piece.ensures)) ∙ c.if-value.true)

pub returns-then-is_empty-clause-code : goal.returns-then-is_empty-clause-code
returns-then-is_empty-clause-code c = λ scope guard then_body else_body is.
    none_taken c.args.image.now scope guard then_body else_body c.args.choice.now is c.piece.result.0.now c.piece.result.1.now c.piece.ensures c.piece-2.result.0.now c.piece-2.result.1.now c.piece-2.ensures (value_of c.args.image.now guard c.args.state.now c.args.report) (sym (c.value.ensures.value scope.guards guard (guard_read c.args.image.now scope guard then_body else_body c.args.choice.now is c.piece.result.0.now c.piece.result.1.now c.piece.ensures)) ∙ c.if-value.false) (is_nil _ _ c.is_empty.ensures c.if-is_empty.true)

pub piece-requires-3 : goal.piece-requires-3
piece-requires-3 c =
    let k = c.requires.choice in
    begins_else c.args.image.now k.scope k.guard k.then_body k.else_body c.args.choice.now k.is c.piece.result.0.now c.piece.result.1.now c.piece.ensures c.piece-2.result.0.now c.piece-2.result.1.now c.piece-2.ensures true (is_some_left _ _ c.is_empty.ensures c.if-is_empty.false)

pub returns-clause-code : goal.returns-clause-code
returns-clause-code c = λ scope guard then_body else_body is.
    else_taken c.args.image.now scope guard then_body else_body c.args.choice.now is c.piece.result.0.now c.piece.result.1.now c.piece.ensures c.piece-2.result.0.now c.piece-2.result.1.now c.piece-2.ensures (value_of c.args.image.now guard c.args.state.now c.args.report) (is_some_left _ _ c.is_empty.ensures c.if-is_empty.false) c.piece-3.result.0.now c.piece-3.result.1.now (sym (c.value.ensures.value scope.guards guard (guard_read c.args.image.now scope guard then_body else_body c.args.choice.now is c.piece.result.0.now c.piece.result.1.now c.piece.ensures)) ∙ c.if-value.false) c.piece-3.ensures
