use Rattle.std.proofs.Common.{◌≡◌, map, take}
use Rattle.ssi_names.specs.Tables.{table_of}
use Rattle.ssi_names.proofs.rows.rows.Given as goal

abbrev pub invariant-loop-entry : goal.invariant-loop-entry
invariant-loop-entry g l = l.rows.items ≡ map (g.R.RowOf.row_of l.text (table_of l.tables)) (take l.entry-index l.entries)
