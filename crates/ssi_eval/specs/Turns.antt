-- Where a walk through a condition comes to.
use Rattle.std.specs.Prelude.{◌≡◌, ℕ, ◌<◌, true, List, reverse}
use Rattle.ssi_eval.specs.declared.frame.Frame.{Frame}
use Rattle.ssi_eval.specs.declared.condition.Turn.{Turn}
use Rattle.ssi_eval.specs.declared.condition.Turn.TheVariants.{Value, Asks}
use Rattle.ssi_eval.specs.Frames.{Reading, GoesOn, bytes_in}

-- the value that the reading gives, with the stack as it was before; or a question that it may ask, with whose answer it goes on
abbrev pub ComesTo : Reading → List Frame → Turn → Type 0
ComesTo reading stack (Value value) = (value ≡ reading.result) × (reverse stack ≡ reading.under)
ComesTo reading stack (Asks level points lie) = (reading.scope.may_ask points lie ≡ true) × GoesOn reading stack level (reading.scene.free points lie)

-- a question leaves fewer bytes
abbrev pub Shrinks : ℕ → List Frame → Turn → Type 0
Shrinks bytes stack (Value value) = Unit {0}
Shrinks bytes stack (Asks level points lie) = bytes_in level stack < bytes
