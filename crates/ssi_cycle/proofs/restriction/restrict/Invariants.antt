use Rattle.std.proofs.Common.{◌≡◌, Some}
use Rattle.std.specs.Prelude.{slice_get}
use Rattle.ssi_identities.specs.DataSets.{ModulePlan, counts_of}
use Rattle.ssi_identities.specs.States.{IsStateOf, after_settings}
use Rattle.ssi_cycle.proofs.Restricting.{restriction_from}
use Rattle.ssi_cycle.proofs.restriction.restrict.Given as goal

abbrev pub invariant-loop-pin : goal.invariant-loop-pin
invariant-loop-pin l = record {
  left : (row : ModulePlan) → slice_get l.image.modules l.«module» ≡ Some row
      → after_settings l.state (restriction_from l.image row l.pin) ≡ after_settings l.fn.state (restriction_from l.image row 0);
  state : IsStateOf (counts_of l.image) l.state;
}
