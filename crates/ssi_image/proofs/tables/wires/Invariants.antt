use Rattle.std.proofs.Common.{◌≡◌, length, map}
use Rattle.ssi_identities.specs.DataSets.{Plan}
use Rattle.ssi_image.specs.Packed.{wiring_of}
use Rattle.ssi_image.specs.Tables.{AreWiresBefore}
use Rattle.ssi_image.proofs.tables.wires.Given as goal

abbrev pub invariant-loop-number : goal.invariant-loop-number
invariant-loop-number l = record {
  long : length l.table.items ≡ l.count;
  wires : (plan : Plan) → l.modules ≡ map wiring_of plan.modules → AreWiresBefore plan l.kind l.number 0 l.table.items;
}
