use Rattle.std.proofs.Common.{◌≡◌, ◌+◌, ◌*◌, length}
use Rattle.ssi_lexer.specs.TokenTests.{comma}
use Rattle.ssi_lexer.specs.Parsers.{several_by, turns, behind}
use Rattle.ssi_lexer.specs.Readings.{GoesOn}
use Rattle.ssi_terms.specs.Read as spec
use Rattle.ssi_terms.proofs.CondRules.{is_or}
use Rattle.ssi_terms.proofs.conditions.+cond.Given as goal

abbrev pub decreases-group : goal.decreases-group
decreases-group l = 5 * l.groups

abbrev pub decreases-item : goal.decreases-item
decreases-item l = 5 * l.groups + 1

abbrev pub decreases-cond_within : goal.decreases-cond_within
decreases-cond_within l = 5 * l.groups + 2

abbrev pub decreases-alternatives : goal.decreases-alternatives
decreases-alternatives l = 5 * l.groups + 3

abbrev pub decreases-opened_group : goal.decreases-opened_group
decreases-opened_group l = 5 * l.groups + 4

abbrev pub invariant-alternatives-alternatives : goal.invariant-alternatives-alternatives
invariant-alternatives-alternatives l = record {
  reads : several_by is_or (spec.cond l.groups) l.fn.tokens.left ≡ turns is_or (behind is_or (spec.cond l.groups)) l.all.items l.tokens.left;
  goes_on : GoesOn l.fn.tokens l.tokens;
}

abbrev pub decreases-alternatives-alternatives : goal.decreases-alternatives-alternatives
decreases-alternatives-alternatives l = length l.tokens.left

abbrev pub invariant-cond_within-items : goal.invariant-cond_within-items
invariant-cond_within-items l = record {
  reads : spec.cond l.groups l.fn.tokens.left ≡ spec.cond_of (turns comma (behind comma (spec.item_by (spec.group l.groups))) l.items.items l.tokens.left);
  goes_on : GoesOn l.fn.tokens l.tokens;
}

abbrev pub decreases-cond_within-items : goal.decreases-cond_within-items
decreases-cond_within-items l = length l.tokens.left
