use Rattle.std.proofs.Common.{◌≡◌, length}
use Rattle.ssi_lexer.specs.Parsers.{separated_by, turns, behind}
use Rattle.ssi_lexer.specs.Readings.{GoesOn}
use Rattle.ssi_terms.specs.Grammar.{deepest}
use Rattle.ssi_opt.specs.OutputRules.{is_bit}
use Rattle.ssi_opt.specs.ReadOutputs as spec
use Rattle.ssi_opt.proofs.file.bits.Given as goal

abbrev pub invariant-bits : goal.invariant-bits
invariant-bits l = record {
  reads : separated_by is_bit (spec.output_bit deepest) l.fn.tokens.left ≡ turns is_bit (behind is_bit (spec.output_bit deepest)) l.all.items l.tokens.left;
  goes_on : GoesOn l.fn.tokens l.tokens;
}

abbrev pub decreases-bits : goal.decreases-bits
decreases-bits l = length l.tokens.left
