use Rattle.ssi_image.proofs.Packing.{row_made}
use Rattle.ssi_image.proofs.assembly.copy_all.Goals as goal

pub loop-row-preserved : goal.loop-row-preserved
loop-row-preserved g c =
    row_made g.C.CopyOf.copied c.args.rows.now c.loop-row.row-index c.row-item.result _ c.loop-row.made.items _ c.loop-row-test.true c.row-item.is c.loop-row.invariant c.in_ok-copy_of.ensures
    c.in_ok-push.ensures.items
