-- A source or a sink over std.
use Rattle.std.specs.Prelude.{ℕ}

-- The reader or writer of std below, and how often it has failed.
pub record OverStd (R : Type 0) : Type 0 where
  pub inner : R
  pub failed : ℕ
