use Rattle.std.proofs.Common.{◌∙◌, ap, arith, rules}
use Rattle.std.proofs.lemmas.Grind.{common_steps}
use Rattle.ssi_lexer.specs.TokenTests.{comma}
use Rattle.ssi_lexer.specs.Parsers.{separated_by}
use Rattle.ssi_lexer.specs.Laws.{Always}
use Rattle.ssi_lexer.proofs.Listing.{some_comma, some_comma_is, mark_go, mark_stop}
use Rattle.ssi_terms.specs.Grammar.{PartOf, SpellsChoice}
use Rattle.ssi_terms.specs.Read as spec
use Rattle.ssi_terms.specs.Read.{body, body_by}
use Rattle.ssi_terms.proofs.BodyRules.{good_part_at, choice_none, choice_opened}
use Rattle.ssi_terms.proofs.bodies.+body.Goals as goal

pub body_within-returns-in_err-first-clause-reads : goal.body_within-returns-in_err-first-clause-reads
unfolding body body_by separated_by
body_within-returns-in_err-first-clause-reads t c = first_of (search rules, grind (arith, common_steps))

pub body_within-parts-init : goal.body_within-parts-init
unfolding body body_by separated_by
body_within-parts-init t c = first_of (search rules, grind (arith, common_steps))

pub body_within-returns-in_err-part-clause-reads : goal.body_within-returns-in_err-part-clause-reads
body_within-returns-in_err-part-clause-reads t c =
    let e = c.parts.invariant.reads ∙ ap spec.body_of (mark_go comma some_comma some_comma_is _ (spec.part_by (spec.choice c.args.groups c.args.choices)) (PartOf (SpellsChoice c.args.groups c.args.choices)) Always Always (λ ts e. tt) (good_part_at c.args.groups c.args.choices) c.parts.parts.items c.parts.tokens c.eat.new.self _ c.eat.ensures.seen c.eat.ensures.moved c.parts-test.true) in
    first_of (search rules, grind (arith, common_steps))

pub body_within-parts-preserved : goal.body_within-parts-preserved
body_within-parts-preserved t c =
    let e = c.parts.invariant.reads ∙ ap spec.body_of (mark_go comma some_comma some_comma_is _ (spec.part_by (spec.choice c.args.groups c.args.choices)) (PartOf (SpellsChoice c.args.groups c.args.choices)) Always Always (λ ts e. tt) (good_part_at c.args.groups c.args.choices) c.parts.parts.items c.parts.tokens c.eat.new.self _ c.eat.ensures.seen c.eat.ensures.moved c.parts-test.true) in
    first_of (search rules, grind (arith, common_steps))

pub body_within-returns-clause-reads : goal.body_within-returns-clause-reads
body_within-returns-clause-reads t c =
    let e = c.parts.invariant.reads ∙ ap spec.body_of (mark_stop comma some_comma some_comma_is _ (spec.part_by (spec.choice c.args.groups c.args.choices)) (PartOf (SpellsChoice c.args.groups c.args.choices)) Always Always (λ ts e. tt) (good_part_at c.args.groups c.args.choices) c.parts.parts.items c.parts.tokens c.eat.new.self _ c.eat.ensures.seen c.eat.ensures.moved c.parts-test.false) in
    first_of (search rules, grind (arith, common_steps))

pub choice-returns-then-choices-eq0-clause-reads : goal.choice-returns-then-choices-eq0-clause-reads
choice-returns-then-choices-eq0-clause-reads t c = let e = choice_none c.args.groups c.args.choices c.args.tokens.now.left (omega arith) in first_of (search rules, grind (arith, common_steps))

pub choice-returns-clause-reads : goal.choice-returns-clause-reads
choice-returns-clause-reads t c = let e = choice_opened c.args.groups c.args.choices c.args.tokens.now.left (omega arith) in rw e c.opened_choice.ensures.reads
