use Rattle.std.proofs.Common.{ap, length, refl, arith}
use Rattle.ssi_eval.proofs.ReadItems.{begins, kind_at, fact_long, fact_known, fact_read, bit_long, bit_known, bit_read, free_long, free_read, group_begins, group_read, piece_length}
use Rattle.ssi_eval.proofs.frame.Frame.next_item.Goals as goal

pub cond_op-op-requires : goal.cond_op-op-requires
cond_op-op-requires c = begins c.args.state.now c.args.report c.args.self.now c.requires

pub number-fact-requires : goal.number-fact-requires
number-fact-requires c =
    let r = c.requires in
    let at = kind_at r.scene r.scope c.args.self.now r.frames r.result c.cond_op-op.result.0 _ c.cond_op-op.result.1.now c.cond_op-op.ensures c.in-Fact.is r.some r.gives in
    fact_long _ _ _ _ _ _ _ at

pub get-requires : goal.get-requires
get-requires c =
    let r = c.requires in
    let at = kind_at r.scene r.scope c.args.self.now r.frames r.result c.cond_op-op.result.0 _ c.cond_op-op.result.1.now c.cond_op-op.ensures c.in-Fact.is r.some r.gives in
    fact_known r.scene r.scope c.args.state.now c.args.report r.looks c.args.self.now c.args.self.now r.frames r.result _ refl c.number-fact.result.0 c.number-fact.result.1.now _ c.number-fact.ensures.value at

pub returns-in-Fact-clause-read : goal.returns-in-Fact-clause-read
returns-in-Fact-clause-read c = λ scene scope frames result looks gives.
    let at = kind_at scene scope c.args.self.now frames result c.cond_op-op.result.0 _ c.cond_op-op.result.1.now c.cond_op-op.ensures c.in-Fact.is c.requires.some gives in
    fact_read scene scope c.args.state.now c.args.report looks c.args.self.now _ frames result _ refl c.number-fact.result.0 c.get.result c.in-Fact.wanted c.number-fact.ensures.value c.get.ensures at

pub first-bit-requires : goal.first-bit-requires
first-bit-requires c =
    let r = c.requires in
    let at = kind_at r.scene r.scope c.args.self.now r.frames r.result c.cond_op-op.result.0 _ c.cond_op-op.result.1.now c.cond_op-op.ensures c.in-Bit.is r.some r.gives in
    bit_long _ _ _ _ _ _ _ at

pub is_set-requires : goal.is_set-requires
is_set-requires c =
    let r = c.requires in
    let at = kind_at r.scene r.scope c.args.self.now r.frames r.result c.cond_op-op.result.0 _ c.cond_op-op.result.1.now c.cond_op-op.ensures c.in-Bit.is r.some r.gives in
    bit_known r.scene r.scope c.args.state.now c.args.report r.looks c.args.self.now c.args.self.now r.frames r.result _ refl c.first-bit.result.0 c.first-bit.result.1.now _ c.first-bit.ensures at

pub returns-in-Bit-clause-read : goal.returns-in-Bit-clause-read
returns-in-Bit-clause-read c = λ scene scope frames result looks gives.
    let at = kind_at scene scope c.args.self.now frames result c.cond_op-op.result.0 _ c.cond_op-op.result.1.now c.cond_op-op.ensures c.in-Bit.is c.requires.some gives in
    bit_read scene scope c.args.state.now c.args.report looks c.args.self.now _ frames result _ refl c.first-bit.result.0 c.is_set.result c.in-Bit.wanted c.first-bit.ensures c.is_set.ensures at

pub number-points-requires : goal.number-points-requires
number-points-requires c =
    let r = c.requires in
    let at = kind_at r.scene r.scope c.args.self.now r.frames r.result c.cond_op-op.result.0 _ c.cond_op-op.result.1.now c.cond_op-op.ensures c.in-Free.is r.some r.gives in
    free_long _ _ _ _ _ _ _ at

pub returns-in-Free-clause-read : goal.returns-in-Free-clause-read
returns-in-Free-clause-read c = λ scene scope frames result looks gives.
    let at = kind_at scene scope c.args.self.now frames result c.cond_op-op.result.0 _ c.cond_op-op.result.1.now c.cond_op-op.ensures c.in-Free.is c.requires.some gives in
    free_read scene scope c.args.state.now c.args.report looks c.args.self.now _ frames result _ refl c.number-points.result.0 c.in-Free.reverse c.number-points.ensures.value at

pub piece-requires : goal.piece-requires
piece-requires c =
    let r = c.requires in
    let at = kind_at r.scene r.scope c.args.self.now r.frames r.result c.cond_op-op.result.0 _ c.cond_op-op.result.1.now c.cond_op-op.ensures c.in-Group.is r.some r.gives in
    group_begins _ _ _ _ _ _ at

pub returns-in-Group-clause-read : goal.returns-in-Group-clause-read
returns-in-Group-clause-read c = λ scene scope frames result looks gives.
    let at = kind_at scene scope c.args.self.now frames result c.cond_op-op.result.0 _ c.cond_op-op.result.1.now c.cond_op-op.ensures c.in-Group.is c.requires.some gives in
    group_read scene scope c.args.state.now c.args.report looks c.args.self.now _ frames result _ refl c.piece.result.0.now c.piece.ensures at

pub returns-in-Group-clause-left : goal.returns-in-Group-clause-left
returns-in-Group-clause-left c =
    let r = c.requires in
    let at = kind_at r.scene r.scope c.args.self.now r.frames r.result c.cond_op-op.result.0 _ c.cond_op-op.result.1.now c.cond_op-op.ensures c.in-Group.is r.some r.gives in
    let long = piece_length c.cond_op-op.result.1.now c.piece.result.0.now c.piece.result.1.now (group_begins _ _ _ _ _ _ at) c.piece.ensures in
    omega (arith, long, ap length c.cond_op-op.ensures)
