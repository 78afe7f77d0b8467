-- The module of a slot.
use Rattle.std.proofs.Common.{◌≡◌, ℕ, ◌<◌, ◌==◌, [], length, get_or, Some, None, ap, subst, ◌∙◌}
use Rattle.std.specs.Prelude.{option_and_then, slice_get, All}
use Rattle.std.proofs.lemmas.List.Elements.{All-get_or}
use Rattle.std.proofs.lemmas.List.Quantifiers.{position-Some}
use Rattle.std.proofs.lemmas.Bool.{eqb-true}
use Rattle.std.proofs.lemmas.Option.{slice_get-get_or, slice_get_within, get_or_from_slice_get}
use Rattle.ssi_identities.specs.DataSets.{Plan, ModulePlan, module_with}
use Rattle.ssi_identities.specs.Wells.{AreWellOutputs, IsWell, IsWellModule, scope_of_conds}
use Rattle.ssi_cycle.specs.Exchanges.{module_in}

-- a module without anything
no_module : ModulePlan
no_module = record { address = 0; kind = 0; pins = []; outputs = []; input = None }

-- the module of this number is the one of the slot, and is well
pub record IsModuleOf (plan : Plan) (slot number : ℕ) : Type 0 where
  pub row : ModulePlan
  pub row_is : slice_get plan.modules number ≡ Some row
  pub within : number < length plan.modules
  pub address_is : row.address ≡ slot
  pub well : IsWellModule plan row
  pub in_slot : module_in plan slot ≡ Some row

pub module_found : (plan : Plan) (slot number : ℕ) → IsWell plan → module_with plan slot ≡ Some number → IsModuleOf plan slot number
module_found plan slot number well found =
    let at = position-Some (λ row. row.address == slot) plan.modules number no_module found in
    let row = get_or plan.modules number no_module in
    let there = slice_get-get_or plan.modules number no_module at.0 in
    record {
      row = row;
      row_is = there;
      within = at.0;
      address_is = eqb-true row.address slot at.1;
      well = All-get_or (IsWellModule plan) plan.modules number no_module at.0 well.wiring.modules;
      in_slot = ap (option_and_then (slice_get plan.modules)) found ∙ there;
    }

-- a slot without a module has none
pub no_module_in : (plan : Plan) (slot : ℕ) → module_with plan slot ≡ None → module_in plan slot ≡ None
no_module_in plan slot none = ap (option_and_then (slice_get plan.modules)) none

-- a module by its number
pub record IsRow (plan : Plan) (number : ℕ) : Type 0 where
  pub row : ModulePlan
  pub row_is : slice_get plan.modules number ≡ Some row

pub row_at : (plan : Plan) (number : ℕ) → number < length plan.modules → IsRow plan number
row_at plan number within = record { row = get_or plan.modules number no_module; row_is = slice_get-get_or plan.modules number no_module within }

-- what holds of all modules holds of it
row_all : (P : ModulePlan → Type 0) (plan : Plan) (number : ℕ) (row : ModulePlan) → All P plan.modules → slice_get plan.modules number ≡ Some row → P row
row_all P plan number row all there = subst P (get_or_from_slice_get plan.modules number row no_module there) (All-get_or P plan.modules number no_module (slice_get_within plan.modules number row there) all)

-- it is well
pub row_is_well : (plan : Plan) (number : ℕ) (row : ModulePlan) → IsWell plan → slice_get plan.modules number ≡ Some row → IsWellModule plan row
row_is_well plan number row well there = row_all (IsWellModule plan) plan number row well.wiring.modules there

-- eight bits are sent to it
pub row_has_eight : (plan : Plan) (number : ℕ) (row : ModulePlan) → IsWell plan → slice_get plan.modules number ≡ Some row → length row.outputs ≡ 8
row_has_eight plan number row well there = (row_all (λ (r : ModulePlan). AreWellOutputs (scope_of_conds plan 0) r.outputs) plan number row well.rules.outputs there).eight
