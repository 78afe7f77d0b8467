use Rattle.std.proofs.Common.{◌≤◌, ◌^◌, arith}
use Rattle.std.proofs.Math.Nat.{pow-le-pow_right}
use Rattle.ssi_lexer.proofs.taking.value.Goals as goal

pub overflow_mul-value : goal.overflow_mul-value
overflow_mul-value c =
    let within : c.loop-digit.digit-index ≤ 6 = omega arith in
    let low : 10 ^ c.loop-digit.digit-index ≤ 10 ^ 6 = pow-le-pow_right {n = 10} (omega arith) within in
    omega (arith, low, c.loop-digit.invariant.small)

pub overflow_add-value : goal.overflow_add-value
overflow_add-value c =
    let within : c.loop-digit.digit-index ≤ 6 = omega arith in
    let low : 10 ^ c.loop-digit.digit-index ≤ 10 ^ 6 = pow-le-pow_right {n = 10} (omega arith) within in
    omega (arith, low, c.loop-digit.invariant.small)
