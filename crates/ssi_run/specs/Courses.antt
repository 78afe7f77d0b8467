-- A session by its parts.
use Rattle.std.specs.Prelude.{ℕ, List, Option}
use Rattle.ssi_cycle.specs.Cores.{Core}
use Rattle.ssi_trackside.specs.Module.{ModuleState}
use Rattle.ssi_script.specs.declared.step.Mark.{Mark}
use Rattle.ssi_script.specs.Sessions.{Session}

-- the session of an interlocking, a shelf, the marks and the number of the next minor cycle
abbrev pub session_at : Core → List ModuleState → List (Option Mark) → ℕ → Session
session_at core shelf marks number = record { core = core; shelf = shelf; marks = marks; number = number }
