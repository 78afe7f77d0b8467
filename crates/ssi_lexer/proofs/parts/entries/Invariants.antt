use Rattle.std.proofs.Common.{◌≡◌, [], length}
use Rattle.ssi_lexer.specs.Parsers.{turns}
use Rattle.ssi_lexer.specs.Readings.{GoesOn}
use Rattle.ssi_lexer.proofs.parts.entries.Given as goal

abbrev pub invariant-entries : goal.invariant-entries
invariant-entries g l = record {
  reads : turns (g.E.Entry.opens l.entry) (g.E.Part.parser l.entry) [] l.fn.tokens.left ≡ turns (g.E.Entry.opens l.entry) (g.E.Part.parser l.entry) l.all.items l.tokens.left;
  goes_on : GoesOn l.fn.tokens l.tokens;
}

abbrev pub decreases-entries : goal.decreases-entries
decreases-entries g l = length l.tokens.left
