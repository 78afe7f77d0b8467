-- The value of a condition.
use Rattle.std.specs.Prelude.{ℕ, ◌+◌, ◌*◌, ◌/◌, ◌%◌, ◌^◌, ◌==◌, nat_lt, Bool, false, not, ◌&&◌, ◌||◌, if◌then◌else◌, List, [], ◌∷◌, Option, Some, None, option_and_then, slice_get}
use Rattle.std.specs.List.{list_all, list_any}
use Rattle.ssi_identities.specs.declared.fact.FactKind.TheVariants.{Reverse}
use Rattle.ssi_identities.specs.declared.rule.CondItem.{CondItem, fold-CondItem}
use Rattle.ssi_identities.specs.declared.rule.CondItem.TheOpen.{CondItem-F, Cond-F}
use Rattle.ssi_identities.specs.declared.rule.Cond.{Cond, fold-Cond}
use Rattle.ssi_identities.specs.DataSets.{PointsPlan, Plan, counts_of}
use Rattle.ssi_identities.specs.Facts.{fact_number_of}
use Rattle.ssi_identities.specs.Limits.{bit_count}
use Rattle.ssi_identities.specs.States.{State, truth_of}

-- whether a bit of a report's byte is 1, bit 0 being the lowest; there are eight
abbrev pub bit_of : ℕ → ℕ → Bool
bit_of report bit = nat_lt bit bit_count && (report / 2 ^ bit % 2 == 1)

-- the byte of some bits, the lowest first
abbrev pub byte_of : List Bool → ℕ
byte_of [] = 0
byte_of (bit ∷ bits) = (if bit then 1 else 0) + 2 * byte_of bits

-- what a condition looks at: a state, which bits of the report are 1, and which points are controlled or free to which lie (true for reverse)
pub record Scene : Type 0 where
  pub state : State
  pub bits : ℕ → Bool
  pub free : ℕ → Bool → Bool

-- whether a truth value is the wanted one
abbrev pub is_as_wanted : Bool → Bool → Bool
is_as_wanted value wanted = if wanted then value else not value

-- whether an item of a condition holds, where it is known which of its alternatives do: a group holds where one of them does
abbrev pub item_value : Scene → CondItem-F Bool Bool → Bool
item_value scene (CondItem-F.Lit fact wanted) = is_as_wanted (truth_of scene.state fact) wanted
item_value scene (CondItem-F.Bit bit wanted) = is_as_wanted (scene.bits bit) wanted
item_value scene (CondItem-F.Free points reverse) = scene.free points reverse
item_value scene (CondItem-F.Any alternatives) = list_any (λ holds. holds) alternatives

-- a condition holds where all of its items do
abbrev pub cond_value : Cond-F Bool Bool → Bool
cond_value cond = list_all (λ holds. holds) cond.items

-- whether an item of a condition holds
abbrev pub item_holds : Scene → CondItem → Bool
item_holds scene = fold-CondItem Bool Bool (item_value scene) cond_value

-- whether a condition holds
abbrev pub holds_in : Scene → Cond → Bool
holds_in scene = fold-Cond Bool Bool (item_value scene) cond_value

-- a condition of these items
abbrev pub cond_of : List CondItem → Cond
cond_of items = record { items = items }

-- whether points are controlled to a lie: reverse where they are controlled reverse, and normal where they aren't
abbrev pub is_controlled : Plan → State → ℕ → Bool → Bool
is_controlled plan state points reverse = is_as_wanted (truth_of state (fact_number_of (counts_of plan) Reverse points)) reverse

-- the own condition of one of these points for a move to a lie
abbrev pub move_condition_in : List PointsPlan → ℕ → Bool → Option Cond
move_condition_in points number reverse = option_and_then (λ row. if reverse then row.free_reverse else row.free_normal) (slice_get points number)

-- the points' own condition for a move to a lie
abbrev pub move_condition_of : Plan → ℕ → Bool → Option Cond
move_condition_of plan = move_condition_in plan.points

-- what the points' own conditions look at: they don't ask in turn which points are free
abbrev pub move_scene : State → ℕ → Scene
move_scene state report = record { state = state; bits = bit_of report; free = λ points reverse. false }

-- whether points may be moved by their own condition; they may not where they have none
abbrev pub may_move : State → ℕ → Option Cond → Bool
may_move state report None = false
may_move state report (Some cond) = holds_in (move_scene state report) cond

-- points are free to a lie where they are controlled to it already, or where they may be moved to it
abbrev pub is_free : Plan → State → ℕ → ℕ → Bool → Bool
is_free plan state report points reverse = is_controlled plan state points reverse || may_move state report (move_condition_of plan points reverse)

-- what a condition of a data set looks at, in a state and with a report's byte
abbrev pub scene_of : Plan → State → ℕ → Scene
scene_of plan state report = record { state = state; bits = bit_of report; free = is_free plan state report }

-- the value of a condition of a data set, in a state and with a report's byte
abbrev pub value_of : Plan → Cond → State → ℕ → Bool
value_of plan cond state report = holds_in (scene_of plan state report) cond
