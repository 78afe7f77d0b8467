-- The command that goes out in a slot.
use Rattle.std.specs.Prelude.{ℕ, Bool, false, List, map, Option, Some, None, option_map}
use Rattle.ssi_identities.specs.declared.rule.Cond.{Cond}
use Rattle.ssi_identities.specs.DataSets.{Plan, ModulePlan}
use Rattle.ssi_identities.specs.States.{State}
use Rattle.ssi_identities.specs.Values.{byte_of, value_of}
use Rattle.ssi_telegrams.specs.Telegram.{command_telegram_of}
use Rattle.ssi_cycle.specs.Exchanges.{module_in}

-- a bit is 1 where its condition holds, and 0 where it has none; there is no report, and none has influence on it
abbrev pub output_bit : Plan → State → Option Cond → Bool
output_bit plan state None = false
output_bit plan state (Some cond) = value_of plan cond state 0

-- the byte that goes to a module
abbrev pub output_byte : Plan → State → ModulePlan → ℕ
output_byte plan state row = byte_of (map (output_bit plan state) row.outputs)

-- the telegram that goes out in a slot, none where the slot has no module
abbrev pub output_in : Plan → ℕ → State → Option (List ℕ)
output_in plan slot state = option_map (λ row. command_telegram_of slot (output_byte plan state row)) (module_in plan slot)
