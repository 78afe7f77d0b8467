use Rattle.std.proofs.Common.{◌≡◌, ◌-◌, ◌<◌, ◌^◌, Some}
use Rattle.std.specs.Prelude.{slice_get}
use Rattle.ssi_identities.specs.DataSets.{ModulePlan}
use Rattle.ssi_cycle.proofs.Bytes.{byte_from}
use Rattle.ssi_cycle.proofs.output.byte.Given as goal

abbrev pub invariant-loop-place : goal.invariant-loop-place
invariant-loop-place l = record {
  bits : (row : ModulePlan) → slice_get l.image.modules l.«module» ≡ Some row → l.byte ≡ byte_from l.image l.state row (8 - l.place);
  within : l.byte < 2 ^ l.place;
}
