-- How often the outside has failed, and what a call owes where it says so.
use Rattle.std.specs.Prelude.{ℕ, ◌+◌, ◌-◌, ◌^◌, ◌≡◌, ◌≤◌, min, Result, OnErr}
use Rattle.std.proofs.Common.{lit≤}
use Rattle.std.proofs.Math.Nat.{min-le_right}

-- How often a source or a sink has failed, and how high this count may ever come.
pub record Faults : Type 0 where
  pub count : ℕ
  pub most : ℕ

-- The last number of a count: the greatest of 64 bits.
abbrev pub last_count : ℕ
last_count = 2 ^ 64 - 1

-- One more, in a count that stays at the last number once it is there.
abbrev pub one_more : ℕ → ℕ
one_more n = min (n + 1) last_count

-- The count is within its most, and the most is no more than the last number.
pub record IsBounded (faults : Faults) : Type 0 where
  pub count : faults.count ≤ faults.most
  pub most : faults.most ≤ last_count

-- The count rose since, or it stands at the last number.
abbrev pub Rose : Faults → Faults → Type 0
Rose before now = one_more before.count ≤ now.count

-- The count never falls, and how high it may come stays as it was.
pub record GoesOn (before now : Faults) : Type 0 where
  pub later : before.count ≤ now.count
  pub most : now.most ≡ before.most

-- An error is told only where the count rose.
pub record HasCause {T E : Type 0} (before now : Faults) (result : Result T E) : Type 0 where
  pub goes_on : GoesOn before now
  pub failed : OnErr result (Rose before now)

-- So many failures, counted up to the most that there may be.
abbrev pub counted : ℕ → ℕ → Faults
counted failures most = record { count = min failures most; most = most }

-- The failures of what may fail at any call.
abbrev pub unbounded : ℕ → Faults
unbounded failures = counted failures last_count

-- Failures that are counted up to a most are bounded where this most is.
pub counted_bounded : (failures most : ℕ) → most ≤ last_count → IsBounded (counted failures most)
counted_bounded failures most within = record { count = min-le_right failures most; most = within }

-- The failures of what may fail at any call are bounded.
pub unbounded_bounded : (failures : ℕ) → IsBounded (unbounded failures)
unbounded_bounded failures = counted_bounded failures last_count (lit≤ tt)
