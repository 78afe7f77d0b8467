use Rattle.ssi_names.specs.Tables.{table_of}
use Rattle.ssi_names.proofs.Lists.{map_entry}
use Rattle.ssi_names.proofs.rows.rows.Goals as goal

pub loop-entry-preserved : goal.loop-entry-preserved
loop-entry-preserved g c =
    map_entry (g.R.RowOf.row_of c.args.text.now (table_of c.args.tables.now)) c.args.entries.now c.loop-entry.entry-index c.entry-item.result _ _ _ c.loop-entry-test.true c.entry-item.is c.loop-entry.invariant
    c.in_ok-row.ensures c.in_ok-push.ensures.items
