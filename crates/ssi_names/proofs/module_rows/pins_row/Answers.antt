use Rattle.ssi_names.proofs.Pins.{no_spot}
use Rattle.ssi_names.proofs.Wires.{wire_next}
use Rattle.ssi_names.proofs.module_rows.pins_row.Goals as goal

pub loop-name-preserved : goal.loop-name-preserved
loop-name-preserved c =
    wire_next c.args.text.now c.args.names.now c.args.count c.args.entries.now c.loop-name.name-index (no_spot, no_spot) c.loop-name.pins.items _ _ _ c.loop-name-test.true c.requires.few c.loop-name.invariant
    c.small_number.ensures c.number-identity.ensures c.put.ensures
