use Rattle.std.proofs.Common.{◌≡◌, None, take, replicate}
use Rattle.std.specs.Prelude.{fold}
use Rattle.ssi_names.specs.ModuleRows.{with_pin}
use Rattle.ssi_names.proofs.module_rows.pins_row.Given as goal

abbrev pub invariant-loop-name : goal.invariant-loop-name
invariant-loop-name l = l.pins.items ≡ fold (with_pin l.text l.names) (replicate l.count None) (take l.name-index l.entries)
