use Rattle.std.proofs.Common.{◌≡◌, Some, length}
use Rattle.std.specs.Prelude.{slice_get}
use Rattle.ssi_identities.specs.DataSets.{ModulePlan, Plan}
use Rattle.ssi_image.specs.Packed.{wiring_of}
use Rattle.ssi_image.specs.Tables.{AreWiresBefore}
use Rattle.ssi_image.proofs.tables.note_module.Given as goal

abbrev pub invariant-loop-pin : goal.invariant-loop-pin
invariant-loop-pin l = record {
  same : length l.table.items ≡ length l.fn.table.items;
  wires : (plan : Plan) (wired : ModulePlan) → slice_get plan.modules l.number ≡ Some wired → wiring_of wired ≡ l.row → AreWiresBefore plan l.kind l.number 0 l.fn.table.items
      → AreWiresBefore plan l.kind l.number l.pin l.table.items;
}
