-- Which fact of a state changes next.
use Rattle.std.specs.Prelude.{◌≡◌, ℕ, ◌<◌, ◌≤◌, Bool, Option, Some, None}
use Rattle.ssi_identities.specs.States.{State, fact_total_of, truth_of}

-- the fact has the value that it had before
abbrev pub IsUnchanged : State → State → ℕ → Type 0
IsUnchanged before after fact = truth_of before fact ≡ truth_of after fact

-- the first fact at or past `from` that has changed, with its value now
pub record IsFirstChange (before after : State) (from fact : ℕ) (value : Bool) : Type 0 where
  pub reached : from ≤ fact
  pub within : fact < fact_total_of after
  pub value_is : value ≡ truth_of after fact
  pub changed : ¬ IsUnchanged before after fact
  pub none_between : (other : ℕ) → from ≤ other → other < fact → IsUnchanged before after other

-- the next change from a fact on; none where each fact from there on has the value that it had before
abbrev pub IsNextChange : State → State → ℕ → Option (ℕ × Bool) → Type 0
IsNextChange before after from None = (fact : ℕ) → from ≤ fact → IsUnchanged before after fact
IsNextChange before after from (Some change) = IsFirstChange before after from change.0 change.1
