use Rattle.std.proofs.Common.{◌≡◌, ◌+◌, ◌-◌, ◌*◌, ◌^◌, ◌≤◌, drop}
use Rattle.std.specs.Prelude.{fold}
use Rattle.ssi_lexer.specs.Lexemes.{value_of_digits}
use Rattle.ssi_lexer.proofs.taking.value.Given as goal

abbrev pub invariant-loop-digit : goal.invariant-loop-digit
invariant-loop-digit l = record {
  value : fold (λ value digit. 10 * value + (digit - 48)) l.value (drop l.digit-index l.digits) ≡ value_of_digits l.digits;
  small : l.value + 23 ≤ 23 * 10 ^ l.digit-index;
}
