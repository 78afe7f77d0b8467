-- A source and a sink in memory, whose calls are numbered from 0 and fail where their numbers are listed.
use Rattle.std.specs.Prelude.{◌≤◌, ℕ, ◌==◌, ◌||◌, ◌&&◌, nat_lt, nat_le, Bool, List, [], ◌∷◌, ◌++◌, length, drop}
use Rattle.std.specs.List.{list_any}
use Rattle.std.proofs.Common.{lit≤}
use Rattle.ssi_base.specs.Faults.{Faults, IsBounded, last_count, counted, unbounded, one_more, counted_bounded, unbounded_bounded}

-- A source: the bytes left, the most that a call gives, the number of the next call, the calls that fail, and how many have failed.
pub record MemoryInput : Type 0 where
  pub left : List ℕ
  pub piece : ℕ
  pub call : ℕ
  pub fails : List ℕ
  pub failed : ℕ

-- A sink: the bytes written, the most that it holds, the most that a call takes, the number of the next call, the calls that fail, and how many have failed.
pub record MemoryOutput : Type 0 where
  pub written : List ℕ
  pub capacity : ℕ
  pub piece : ℕ
  pub call : ℕ
  pub fails : List ℕ
  pub failed : ℕ

-- Whether the call with this number is listed to fail.
abbrev pub is_listed : List ℕ → ℕ → Bool
is_listed fails call = list_any (λ number. number == call) fails

-- How many failures a source may come to: none where no call is listed.
abbrev pub most_failures : List ℕ → ℕ
most_failures [] = 0
most_failures (call ∷ calls) = last_count

-- The failures of a source in memory.
abbrev pub input_faults : MemoryInput → Faults
input_faults input = counted input.failed (most_failures input.fails)

-- The failures of a sink in memory.
abbrev pub output_faults : MemoryOutput → Faults
output_faults output = unbounded output.failed

-- Whether a sink's next call fails: it is listed, or it is to take some bytes where the capacity is used up.
abbrev pub refuses : MemoryOutput → List ℕ → Bool
refuses output bytes = is_listed output.fails output.call || nat_lt 0 (length bytes) && nat_le output.capacity (length output.written)

-- A source after a call that gave n bytes.
abbrev pub after_read : MemoryInput → ℕ → MemoryInput
after_read input n = record input { left = drop n input.left; call = one_more input.call }

-- A source after a call that failed.
abbrev pub after_failed_read : MemoryInput → MemoryInput
after_failed_read input = record input { call = one_more input.call; failed = one_more input.failed }

-- A sink after a call that took these bytes.
abbrev pub after_write : MemoryOutput → List ℕ → MemoryOutput
after_write output bytes = record output { written = output.written ++ bytes; call = one_more output.call }

-- A sink after a call that failed.
abbrev pub after_failed_write : MemoryOutput → MemoryOutput
after_failed_write output = record output { call = one_more output.call; failed = one_more output.failed }

-- How many failures a source may come to is no more than the last number of a count.
pub most_failures-le : (fails : List ℕ) → most_failures fails ≤ last_count
most_failures-le [] = lit≤ tt
most_failures-le (call ∷ calls) = lit≤ tt

-- The failures of a source are bounded.
pub input_bounded : (input : MemoryInput) → IsBounded (input_faults input)
input_bounded input = counted_bounded input.failed (most_failures input.fails) (most_failures-le input.fails)

-- The failures of a sink are bounded.
pub output_bounded : (output : MemoryOutput) → IsBounded (output_faults output)
output_bounded output = unbounded_bounded output.failed
