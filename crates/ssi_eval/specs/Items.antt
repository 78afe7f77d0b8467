-- What is read at an item of a condition.
use Rattle.std.specs.Prelude.{◌≡◌, ℕ, ◌<◌, Bool, true, false, List, [], ◌∷◌, length}
use Rattle.ssi_identities.specs.Allowed.{CondScope}
use Rattle.ssi_identities.specs.States.{State}
use Rattle.ssi_identities.specs.Values.{Scene}
use Rattle.ssi_eval.specs.declared.frame.Frame.{Frame}
use Rattle.ssi_eval.specs.declared.condition.Item.{Item}
use Rattle.ssi_eval.specs.declared.condition.Item.TheVariants.{Test, Free, Group}
use Rattle.ssi_eval.specs.Frames.{Gives, LooksAt}

-- an item of a condition stands at the level, and may be read in this state with this report
pub record CanRead (state : State) (report : ℕ) (level : Frame) : Type 0 where
  pub scene : Scene
  pub scope : CondScope
  pub frames : List Frame
  pub result : Bool
  pub some : 0 < length level.items.now
  pub looks : LooksAt scene scope state report
  pub gives : Gives scene scope (level ∷ frames) true result

-- what follows the item gives the result: after a test, with its value; after a question, with its answer; and after a group, where its alternatives are a level
-- of which none has held yet
abbrev pub IsRead : Scene → CondScope → Frame → List Frame → Bool → Item → Type 0
IsRead scene scope level frames result (Test value) = Gives scene scope (level ∷ frames) value result
IsRead scene scope level frames result (Free points lie) = (scope.may_ask points lie ≡ true) × Gives scene scope (level ∷ frames) (scene.free points lie) result
IsRead scene scope level frames result (Group alternatives) = (length frames < 8)
    × ((group : Frame) → group.items.now ≡ [] → group.others.now ≡ alternatives.now → Gives scene scope (group ∷ level ∷ frames) false result)

-- how many bytes of alternatives an item has
abbrev pub bytes_of : Item → ℕ
bytes_of (Test value) = 0
bytes_of (Free points lie) = 0
bytes_of (Group alternatives) = length alternatives.now
