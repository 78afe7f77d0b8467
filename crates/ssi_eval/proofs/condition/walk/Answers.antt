use Rattle.std.proofs.Common.{sym, ap, ◌∙◌, refl, Option, ◌++◌, arith}
use Rattle.std.specs.List.{sum_by}
use Rattle.std.specs.Option.{option_to_list}
use Rattle.ssi_eval.specs.declared.frame.Frame.{Frame}
use Rattle.std.proofs.lemmas.List.Sums.{sum_by_push}
use Rattle.ssi_eval.specs.Frames.{bytes_left}
use Rattle.ssi_eval.proofs.ReadItems.{piece_length}
use Rattle.ssi_eval.proofs.Walking.{finished, left, begins_alternative, alternative, after_item, asked, entered, group_room, with_value}
use Rattle.ssi_eval.proofs.condition.walk.Goals as goal

pub returns-then-len-base-clause-turn : goal.returns-then-len-base-clause-turn
returns-then-len-base-clause-turn c = λ reading fits on. finished reading c.args.base c.args.state.now c.args.report fits c.walk.stack.items c.walk.level c.walk.value (sym c.len.ensures.value ∙ c.if-len-base.true) (sym c.is_settled.ensures ∙ c.if-is_settled.true) (c.walk.invariant.on reading fits on)

pub walk-preserved-then-is_settled : goal.walk-preserved-then-is_settled
walk-preserved-then-is_settled c = record {
  on = λ reading fits on. left reading c.args.base c.args.state.now c.args.report fits c.walk.stack.items c.pop.new.self.items c.walk.level c.unwrap-level.result c.walk.value (λ same. c.if-len-base.false (c.len.ensures.value ∙ same)) (c.pop.ensures.items ∙ ap (λ (o : Option Frame). c.pop.new.self.items ++ option_to_list o) c.unwrap-level.ensures) (sym c.is_settled.ensures ∙ c.if-is_settled.true) (c.walk.invariant.on reading fits on);
  left = omega (arith, ap (sum_by bytes_left) (c.pop.ensures.items ∙ ap (λ (o : Option Frame). c.pop.new.self.items ++ option_to_list o) c.unwrap-level.ensures), sum_by_push bytes_left c.pop.new.self.items c.unwrap-level.result);
}

pub next_alternative-level-requires : goal.next_alternative-level-requires
next_alternative-level-requires c =
    let r = c.requires.on in
    let on = c.walk.invariant.on r.reading r.fits r.on in
    begins_alternative r.reading c.args.base c.args.state.now c.args.report r.fits c.walk.stack.items c.walk.level c.walk.value (sym c.is_settled.ensures ∙ c.if-is_settled.false) c.if-not-value.true on

pub walk-preserved-then-not-value : goal.walk-preserved-then-not-value
walk-preserved-then-not-value c = record {
  on = λ reading fits on. alternative reading c.args.base c.args.state.now c.args.report fits c.walk.stack.items c.walk.level c.next_alternative-level.result c.walk.value (sym c.is_settled.ensures ∙ c.if-is_settled.false) c.if-not-value.true c.next_alternative-level.ensures (c.walk.invariant.on reading fits on);
  left =
      let r = c.requires.on in
      let begins = begins_alternative r.reading c.args.base c.args.state.now c.args.report r.fits c.walk.stack.items c.walk.level c.walk.value (sym c.is_settled.ensures ∙ c.if-is_settled.false) c.if-not-value.true (c.walk.invariant.on r.reading r.fits r.on) in
      omega (arith, piece_length c.walk.level.others.now c.next_alternative-level.result.items.now c.next_alternative-level.result.others.now begins c.next_alternative-level.ensures);
}

pub walk-smaller-then-not-value : goal.walk-smaller-then-not-value
walk-smaller-then-not-value c =
    let r = c.requires.on in
    let on = c.walk.invariant.on r.reading r.fits r.on in
    let begins = begins_alternative r.reading c.args.base c.args.state.now c.args.report r.fits c.walk.stack.items c.walk.level c.walk.value (sym c.is_settled.ensures ∙ c.if-is_settled.false) c.if-not-value.true on in
    omega (arith, piece_length c.walk.level.others.now c.next_alternative-level.result.items.now c.next_alternative-level.result.others.now begins c.next_alternative-level.ensures)

pub walk-preserved-in-Test : goal.walk-preserved-in-Test
walk-preserved-in-Test c = record {
  on = λ reading fits init.
      let on = c.walk.invariant.on reading fits init in
      after_item reading c.args.base c.args.state.now c.args.report fits c.walk.stack.items c.walk.level c.next_item.new.self c.walk.value c.in-Test.holds c.if-not-value.false on (c.in-Test.ensures.read reading.scene reading.scope on.frames reading.result fits.looks);
  left = omega (arith, c.in-Test.ensures.left);
}

pub returns-in-Free-clause-turn : goal.returns-in-Free-clause-turn
returns-in-Free-clause-turn c = λ reading fits init.
    let on = c.walk.invariant.on reading fits init in
    asked reading c.args.base c.args.state.now c.args.report fits c.walk.stack.items c.walk.level c.next_item.new.self c.walk.value c.in-Free.reverse c.in-Free.points c.if-not-value.false on (c.in-Free.ensures.read reading.scene reading.scope on.frames reading.result fits.looks)

pub walk-preserved : goal.walk-preserved
walk-preserved c = record {
  on = λ reading fits init.
      let on = c.walk.invariant.on reading fits init in
      entered reading c.args.base c.args.state.now c.args.report fits c.walk.stack.items c.set_aside.new.stack.items c.walk.level c.next_item.new.self _ c.walk.value c.in-Group.alternatives.now c.set_aside.ensures c.if-not-value.false on (c.in-Group.ensures.read reading.scene reading.scope on.frames reading.result fits.looks) refl refl;
  left = omega (arith, c.in-Group.ensures.left, ap (sum_by bytes_left) c.set_aside.ensures, sum_by_push bytes_left c.walk.stack.items c.next_item.new.self);
}

-- no more than eight levels are set aside above the base
pub set_aside-requires : goal.set_aside-requires
set_aside-requires c =
    let r = c.requires.on in
    let on = c.walk.invariant.on r.reading r.fits r.on in
    let read = c.in-Group.ensures.read r.reading.scene r.reading.scope on.frames r.reading.result r.fits.looks (with_value r.reading c.walk.stack.items c.walk.level c.walk.value _ c.if-not-value.false on) in
    omega (arith, c.requires.room, group_room r.reading c.args.base c.args.state.now c.args.report r.fits c.walk.stack.items c.walk.level c.walk.value on read.0)
