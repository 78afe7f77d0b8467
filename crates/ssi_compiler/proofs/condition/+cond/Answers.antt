use Rattle.std.proofs.Common.{arith}
use Rattle.ssi_compiler.proofs.Parts.{item_short, alternative_short}
use Rattle.ssi_compiler.proofs.condition.+cond.Goals as goal

pub write_cond-write_item-requires : goal.write_cond-write_item-requires
write_cond-write_item-requires t c =
    let part = item_short c.args.cond.now c.as_slice-item-items.result.now c.loop-item.item-index c.item-item.result c.as_slice-item-items.ensures c.loop-item-test.true c.item-item.is in
    (omega (arith, part), omega (arith, c.requires.short, part))

pub write_alternatives-write_cond_with_length-requires : goal.write_alternatives-write_cond_with_length-requires
write_alternatives-write_cond_with_length-requires t c =
    let part = alternative_short c.args.alternatives.now c.loop-cond.cond-index c.cond-item.result c.loop-cond-test.true c.cond-item.is in
    (omega (arith, part), omega (arith, c.requires.short, part))
