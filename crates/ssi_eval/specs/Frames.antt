-- What the levels that are being read still have to read, and the value that they give.
use Rattle.std.specs.Prelude.{◌≡◌, ℕ, ◌+◌, ◌<◌, ◌≤◌, ◌^◌, Bool, true, ◌&&◌, ◌||◌, List, [], ◌∷◌, ◌++◌, length, map, reverse}
use Rattle.std.specs.List.{list_all, list_any, sum_by}
use Rattle.ssi_identities.specs.declared.rule.CondItem.{CondItem}
use Rattle.ssi_identities.specs.declared.rule.Cond.{Cond}
use Rattle.ssi_identities.specs.Allowed.{CondScope, greatest, is_item_within, is_within, item_depth, cond_depth}
use Rattle.ssi_identities.specs.Codes.{IsShort, code_of_alternatives, code_of_items}
use Rattle.ssi_identities.specs.States.{State, fact_total_of}
use Rattle.ssi_identities.specs.Values.{Scene, bit_of, holds_in, item_holds}
use Rattle.ssi_eval.specs.declared.frame.Frame.{Frame}

-- how many bytes a level has left
abbrev pub bytes_left : Frame → ℕ
bytes_left frame = length frame.items.now + length frame.others.now

-- how many bytes a level has left with the levels round it
abbrev pub bytes_in : Frame → List Frame → ℕ
bytes_in level stack = bytes_left level + sum_by bytes_left stack

-- a level, so many levels below the outermost, has these items and alternatives left; no more than eight levels lie in one another
pub record IsLevel (scope : CondScope) (below : ℕ) (frame : Frame) (items : List CondItem) (others : List Cond) : Type 0 where
  pub items_are : frame.items.now ≡ code_of_items items
  pub others_are : frame.others.now ≡ code_of_alternatives others
  pub items_short : IsShort (code_of_items items)
  pub others_short : IsShort (code_of_alternatives others)
  pub items_within : list_all (is_item_within scope) items ≡ true
  pub others_within : list_all (is_within scope) others ≡ true
  pub items_depth : below + greatest (map item_depth items) ≤ 8
  pub others_depth : below + greatest (map cond_depth others) ≤ 8

-- where the item that was read last has a value, the levels, the innermost first, give the result: a level holds where that item and those that are left hold,
-- or one of the alternatives
abbrev pub Gives : Scene → CondScope → List Frame → Bool → Bool → Type 0
Gives scene scope [] value result = value ≡ result
Gives scene scope (frame ∷ frames) value result = (items : List CondItem) × (others : List Cond) × IsLevel scope (length frames) frame items others
    × Gives scene scope frames ((value && list_all (item_holds scene) items) || list_any (holds_in scene) others) result

-- a reading of a condition: what it looks at and may name, the frames that stood on the stack before it, and the value that it gives
pub record Reading : Type 0 where
  pub scene : Scene
  pub scope : CondScope
  pub under : List Frame
  pub result : Bool

-- the reading goes on at a level, with frames of its own above those that stood on the stack before it
pub record GoesOn (reading : Reading) (stack : List Frame) (level : Frame) (value : Bool) : Type 0 where
  pub frames : List Frame
  pub on : reverse stack ≡ frames ++ reading.under
  pub gives : Gives reading.scene reading.scope (level ∷ frames) value reading.result

-- what is looked at is this state and this report, and what may be named stands in them
pub record LooksAt (scene : Scene) (scope : CondScope) (state : State) (report : ℕ) : Type 0 where
  pub state_is : scene.state ≡ state
  pub bits_are : scene.bits ≡ bit_of report
  pub facts : scope.facts ≤ fact_total_of state
  pub bits : scope.bits ≤ 8
  pub points : (points : ℕ) (lie : Bool) → scope.may_ask points lie ≡ true → points < 2 ^ 16
  pub few : fact_total_of state < 2 ^ 16

-- the reading looks at this state and this report, above so many frames
pub record Fits (reading : Reading) (base : ℕ) (state : State) (report : ℕ) : Type 0 where
  pub under : length reading.under ≡ base
  pub looks : LooksAt reading.scene reading.scope state report

-- some reading of this state and this report goes on there
pub record CanGoOn (base : ℕ) (state : State) (report : ℕ) (stack : List Frame) (level : Frame) (value : Bool) : Type 0 where
  pub reading : Reading
  pub fits : Fits reading base state report
  pub on : GoesOn reading stack level value
