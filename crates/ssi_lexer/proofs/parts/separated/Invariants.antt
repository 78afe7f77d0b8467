use Rattle.std.proofs.Common.{◌≡◌, length}
use Rattle.ssi_lexer.specs.TokenTests.{comma}
use Rattle.ssi_lexer.specs.Parsers.{separated, turns, behind}
use Rattle.ssi_lexer.specs.Readings.{GoesOn}
use Rattle.ssi_lexer.proofs.parts.separated.Given as goal

abbrev pub invariant-parts : goal.invariant-parts
invariant-parts g l = record {
  reads : separated (g.P.Part.parser l.part) l.fn.tokens.left ≡ turns comma (behind comma (g.P.Part.parser l.part)) l.all.items l.tokens.left;
  goes_on : GoesOn l.fn.tokens l.tokens;
}

abbrev pub decreases-parts : goal.decreases-parts
decreases-parts g l = length l.tokens.left
