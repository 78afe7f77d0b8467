use Rattle.ssi_base.proofs.Reading.{gives_past, gives_within}
use Rattle.std.proofs.Common.{arith}
use Rattle.ssi_base.proofs.input.read_all.Goals as goal

pub returns-then-limit-len-clause-too_large : goal.returns-then-limit-len-clause-too_large
returns-then-limit-len-clause-too_large g c =
    λ _. gives_past _ _ _ _ _ _ c.reads.invariant.given c.in-Ok.ensures.bytes.0 (omega (arith, c.in-Ok.ensures.bound.1))

pub returns-then-is_err-clause-within : goal.returns-then-is_err-clause-within
returns-then-is_err-clause-within g c =
    λ _. gives_within _ _ _ _ _ _ c.reads.invariant.given c.in-Ok.ensures.bytes.0 (omega (arith, c.in-Ok.ensures.bound.1))
