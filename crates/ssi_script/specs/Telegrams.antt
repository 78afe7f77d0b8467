-- What passes between the interlocking and a module in one exchange.
use Rattle.std.specs.Prelude.{ℕ, List, Option, Some, None, option_map}
use Rattle.ssi_telegrams.specs.Telegram.{report_telegram_of}
use Rattle.ssi_trackside.specs.Module.{ModuleState, after_command, report_of}
use Rattle.ssi_script.specs.declared.step.Mark.{Mark}
use Rattle.ssi_script.specs.declared.step.Mark.TheVariants.{Raw, Lose, Drop}

-- a module after a command byte, which doesn't reach it where the mark says that telegrams are dropped
abbrev pub commanded : Option Mark → ModuleState → ℕ → ModuleState
commanded None m value = after_command m value
commanded (Some (Raw bytes)) m value = after_command m value
commanded (Some Lose) m value = after_command m value
commanded (Some Drop) m value = m

-- what arrives from the module at an address: without a mark its report, if it gives one; the mark's four bytes; or nothing
abbrev pub arrives : Option Mark → ℕ → ModuleState → Option (List ℕ)
arrives None address m = option_map (report_telegram_of address) (report_of m)
arrives (Some (Raw bytes)) address m = Some bytes
arrives (Some Lose) address m = None
arrives (Some Drop) address m = None
