use Rattle.std.proofs.Common.{◌≡◌, ◌+◌, ◌*◌, length}
use Rattle.ssi_lexer.specs.TokenTests.{comma}
use Rattle.ssi_lexer.specs.Parsers.{turns, behind}
use Rattle.ssi_lexer.specs.Readings.{GoesOn}
use Rattle.ssi_terms.specs.Read as spec
use Rattle.ssi_terms.proofs.bodies.+body.Given as goal

abbrev pub decreases-choice : goal.decreases-choice
decreases-choice l = 6 * l.choices

abbrev pub decreases-part : goal.decreases-part
decreases-part l = 6 * l.choices + 1

abbrev pub decreases-body_within : goal.decreases-body_within
decreases-body_within l = 6 * l.choices + 2

abbrev pub decreases-otherwise : goal.decreases-otherwise
decreases-otherwise l = 6 * l.choices + 3

abbrev pub decreases-maybe_otherwise : goal.decreases-maybe_otherwise
decreases-maybe_otherwise l = 6 * l.choices + 4

abbrev pub decreases-opened_choice : goal.decreases-opened_choice
decreases-opened_choice l = 6 * l.choices + 5

abbrev pub invariant-body_within-parts : goal.invariant-body_within-parts
invariant-body_within-parts l = record {
  reads : spec.body l.groups l.choices l.fn.tokens.left ≡ spec.body_of (turns comma (behind comma (spec.part_by (spec.choice l.groups l.choices))) l.parts.items l.tokens.left);
  goes_on : GoesOn l.fn.tokens l.tokens;
}

abbrev pub decreases-body_within-parts : goal.decreases-body_within-parts
decreases-body_within-parts l = length l.tokens.left
