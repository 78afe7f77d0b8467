-- What an interlocking holds at all times.
use Rattle.std.specs.Prelude.{◌≡◌, ℕ, ◌<◌, Bool, false, List, length, All}
use Rattle.ssi_identities.specs.DataSets.{Plan, counts_of}
use Rattle.ssi_identities.specs.States.{IsStateOf, State}
use Rattle.ssi_identities.specs.Wells.{IsWell}

-- the data set is well; both states are of its layout, and equal where nothing has acted in the last minor cycle; the requests that wait are there, and the slot is one of 64
pub record IsCoreInvariant (plan : Plan) (state before : State) (has_acted : Bool) (waiting : List ℕ) (slot : ℕ) : Type 0 where
  pub well : IsWell plan
  pub state_now : IsStateOf (counts_of plan) state
  pub state_before : IsStateOf (counts_of plan) before
  pub idle : has_acted ≡ false → before ≡ state
  pub requests : All (λ request. request < length plan.requests) waiting
  pub slot_within : slot < 64
