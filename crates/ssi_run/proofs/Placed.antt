-- The module with an address has a place on a full shelf.
use Rattle.std.proofs.Common.{◌≡◌, ℕ, ◌<◌, ◌≤◌, Option, Some, None, ap, refl, sym, ◌∙◌, arith}
use Rattle.std.specs.Prelude.{option_and_then, option_map, slice_get}
use Rattle.ssi_identities.specs.DataSets.{Plan, ModulePlan, module_with}
use Rattle.ssi_identities.specs.Wells.{IsWell}
use Rattle.ssi_cycle.specs.Exchanges.{module_in}
use Rattle.ssi_cycle.proofs.Modules.{IsModuleOf, module_found}

-- an address and a kind that have a place
pub record HasPlace (address kind : ℕ) : Type 0 where
  pub some : 1 ≤ address
  pub few : address ≤ 63
  pub kind_within : kind < 3

found_place : (plan : Plan) (address : ℕ) (row : ModulePlan) (number : Option ℕ) → IsWell plan → module_with plan address ≡ number
    → option_and_then (slice_get plan.modules) number ≡ Some row → HasPlace address row.kind
found_place plan address row None well is there = absurd cc
found_place plan address row (Some number) well is there =
    let found : IsModuleOf plan address number = module_found plan address number well is in
    let same : found.row ≡ row = let both : Some found.row ≡ Some row = sym found.row_is ∙ there in cc in
    let of_kind : found.row.kind ≡ row.kind = ap (λ (row : ModulePlan). row.kind) same in
    record {
      some = omega (arith, found.address_is, found.well.some);
      few = omega (arith, found.address_is, found.well.few);
      kind_within = omega (arith, of_kind, found.well.kind);
    }

pub row_place : (plan : Plan) (address : ℕ) (row : ModulePlan) → IsWell plan → module_in plan address ≡ Some row → HasPlace address row.kind
row_place plan address row well there = found_place plan address row (module_with plan address) well refl there

kind_found : (plan : Plan) (address kind : ℕ) (row : Option ModulePlan) → IsWell plan → module_in plan address ≡ row → option_map (λ row. row.kind) row ≡ Some kind → HasPlace address kind
kind_found plan address kind None well is there = absurd cc
kind_found plan address kind (Some row) well is there =
    let same : row.kind ≡ kind = cc in
    rw (← same) (row_place plan address row well is)

pub kind_place : (plan : Plan) (address kind : ℕ) → IsWell plan → option_map (λ row. row.kind) (module_in plan address) ≡ Some kind → HasPlace address kind
kind_place plan address kind well there = kind_found plan address kind (module_in plan address) well refl there
