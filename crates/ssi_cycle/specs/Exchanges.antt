-- What arrives in a slot, and the deeds that follow from it.
use Rattle.std.specs.Prelude.{ℕ, List, [], ◌∷◌, Option, Some, None, option_and_then, slice_get}
use Rattle.ssi_identities.specs.declared.rule.Body.{Body}
use Rattle.ssi_identities.specs.DataSets.{Plan, ModulePlan, module_with}
use Rattle.ssi_telegrams.specs.Telegram.{reported_byte}
use Rattle.ssi_cycle.specs.Deeds.{Deed}
use Rattle.ssi_cycle.specs.Deeds.Deed.{Acts, Restricts}

-- four bytes, or nothing, that arrive in a slot
abbrev pub Arrival : Type 0
Arrival = Option (List ℕ)

-- the module whose address is the slot's number, if there is one
abbrev pub module_in : Plan → ℕ → Option ModulePlan
module_in plan slot = option_and_then (slice_get plan.modules) (module_with plan slot)

-- the byte that the module at an address has reported; none where nothing arrived, or what arrived isn't its report
abbrev pub heard_from : ℕ → Arrival → Option ℕ
heard_from address arrived = option_and_then (reported_byte address) arrived

-- the input of a module acts with a report's byte, where the module has one
abbrev pub deeds_of_input : Option Body → ℕ → List Deed
deeds_of_input None byte = []
deeds_of_input (Some input) byte = Acts input byte ∷ []

-- a slot without a module ignores what arrives; the input of a module that has reported a byte acts with it, and all that is wired to one that hasn't is restricted
abbrev pub deeds_of_exchange : Option ModulePlan → Option ℕ → List Deed
deeds_of_exchange None heard = []
deeds_of_exchange (Some row) (Some byte) = deeds_of_input row.input byte
deeds_of_exchange (Some row) None = Restricts row ∷ []

-- the deeds of what arrives in a slot
abbrev pub deeds_of_arrival : Plan → ℕ → Arrival → List Deed
deeds_of_arrival plan slot arrived = deeds_of_exchange (module_in plan slot) (heard_from slot arrived)
