-- States, what changes them, and the one that an interlocking starts in.
use Rattle.std.specs.Prelude.{◌≡◌, ℕ, Bool, true, false, List, [], ◌∷◌, length, map, slice_index_or, slice_set}
use Rattle.ssi_identities.specs.declared.fact.Counts.{Counts}
use Rattle.ssi_identities.specs.declared.fact.FactKind.{FactKind}
use Rattle.ssi_identities.specs.declared.fact.FactKind.TheVariants.{Occupied}
use Rattle.ssi_identities.specs.Facts.{fact_count_of, facts_of}

-- a truth value for each fact, by the fact's number
pub record State : Type 0 where
  pub facts : List Bool

-- how many facts a state has
abbrev pub fact_total_of : State → ℕ
fact_total_of state = length state.facts

-- a state of a layout with these counts has a value for each of its facts, and for no others
pub record IsStateOf (counts : Counts) (state : State) : Type 0 where
  pub facts : fact_total_of state ≡ fact_count_of counts

-- whether a fact is true; a fact past the end of the state is false
abbrev pub truth_of : State → ℕ → Bool
truth_of state fact = slice_index_or state.facts fact false

-- the state in which one fact has this value, and all others have theirs; past the end of the state nothing changes
abbrev pub with_truth : State → ℕ → Bool → State
with_truth state fact value = record state { facts = slice_set state.facts fact value }

-- a fact, and the value that it gets
pub record Setting : Type 0 where
  pub fact : ℕ
  pub value : Bool

-- the state in which a fact has got its value
abbrev pub after_setting : State → Setting → State
after_setting state setting = with_truth state setting.fact setting.value

-- the state after settings, one after another
abbrev pub after_settings : State → List Setting → State
after_settings state [] = state
after_settings state (setting ∷ settings) = after_settings (after_setting state setting) settings

-- a start takes every track for occupied, and all else for false
abbrev pub is_true_at_start : FactKind → Bool
is_true_at_start Occupied = true
is_true_at_start _ = false

-- the state at the start
abbrev pub start_of : Counts → State
start_of counts = record { facts = map (λ fact. is_true_at_start fact.kind) (facts_of counts) }
