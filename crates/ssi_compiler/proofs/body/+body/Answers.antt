use Rattle.std.proofs.Common.{arith}
use Rattle.ssi_compiler.proofs.Parts.{body_item_short}
use Rattle.ssi_compiler.proofs.body.+body.Goals as goal

pub write_body-write_item-requires : goal.write_body-write_item-requires
write_body-write_item-requires t c =
    let part = body_item_short c.args.body.now c.as_slice-item-items.result.now c.loop-item.item-index c.item-item.result c.as_slice-item-items.ensures c.loop-item-test.true c.item-item.is in
    (omega (arith, part), omega (arith, c.requires.short, part))
