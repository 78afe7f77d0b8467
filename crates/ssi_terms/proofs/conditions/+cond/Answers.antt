use Rattle.std.proofs.Common.{◌∙◌, sym, ap, arith, rules}
use Rattle.std.proofs.lemmas.Grind.{common_steps}
use Rattle.ssi_lexer.specs.TokenTests.{comma}
use Rattle.ssi_lexer.specs.Parsers.{separated_by, several_by}
use Rattle.ssi_lexer.specs.Laws.{Always, Lacks}
use Rattle.ssi_lexer.proofs.Listing.{some_comma, some_comma_is, mark_go, mark_stop}
use Rattle.ssi_terms.specs.Read as spec
use Rattle.ssi_terms.specs.Read.{cond, cond_by}
use Rattle.ssi_terms.specs.Grammar.{ItemOf, SpellsGroup, SpellsCond}
use Rattle.ssi_terms.proofs.CondRules.{good_item_at, good_cond, is_or, or_meets, ListEnds, some_or, some_or_is, group_none, group_opened}
use Rattle.ssi_terms.proofs.conditions.+cond.Goals as goal

pub cond_within-returns-in_err-first-clause-reads : goal.cond_within-returns-in_err-first-clause-reads
unfolding cond cond_by separated_by
cond_within-returns-in_err-first-clause-reads t c = first_of (search rules, grind (arith, common_steps))

pub cond_within-items-init : goal.cond_within-items-init
unfolding cond cond_by separated_by
cond_within-items-init t c = first_of (search rules, grind (arith, common_steps))

pub cond_within-returns-in_err-item-clause-reads : goal.cond_within-returns-in_err-item-clause-reads
cond_within-returns-in_err-item-clause-reads t c =
    let e = c.items.invariant.reads ∙ ap spec.cond_of (mark_go comma some_comma some_comma_is _ (spec.item_by (spec.group c.args.groups)) (ItemOf (SpellsGroup c.args.groups)) Always Always (λ ts e. tt) (good_item_at c.args.groups) c.items.items.items c.items.tokens c.eat.new.self _ c.eat.ensures.seen c.eat.ensures.moved c.items-test.true) in
    first_of (search rules, grind (arith, common_steps))

pub cond_within-items-preserved : goal.cond_within-items-preserved
cond_within-items-preserved t c =
    let e = c.items.invariant.reads ∙ ap spec.cond_of (mark_go comma some_comma some_comma_is _ (spec.item_by (spec.group c.args.groups)) (ItemOf (SpellsGroup c.args.groups)) Always Always (λ ts e. tt) (good_item_at c.args.groups) c.items.items.items c.items.tokens c.eat.new.self _ c.eat.ensures.seen c.eat.ensures.moved c.items-test.true) in
    first_of (search rules, grind (arith, common_steps))

pub cond_within-returns-clause-reads : goal.cond_within-returns-clause-reads
cond_within-returns-clause-reads t c =
    let e = c.items.invariant.reads ∙ ap spec.cond_of (mark_stop comma some_comma some_comma_is _ (spec.item_by (spec.group c.args.groups)) (ItemOf (SpellsGroup c.args.groups)) Always Always (λ ts e. tt) (good_item_at c.args.groups) c.items.items.items c.items.tokens c.eat.new.self _ c.eat.ensures.seen c.eat.ensures.moved c.items-test.false) in
    first_of (search rules, grind (arith, common_steps))

pub alternatives-returns-in_err-cond_within-clause-reads : goal.alternatives-returns-in_err-cond_within-clause-reads
unfolding several_by
alternatives-returns-in_err-cond_within-clause-reads t c = first_of (search rules, grind (arith, common_steps))

pub alternatives-returns-in_err-token-clause-reads : goal.alternatives-returns-in_err-token-clause-reads
unfolding several_by
alternatives-returns-in_err-token-clause-reads t c = first_of (search rules, grind (arith, common_steps))

pub alternatives-returns-in_err-cond_within-2-clause-reads : goal.alternatives-returns-in_err-cond_within-2-clause-reads
unfolding several_by
alternatives-returns-in_err-cond_within-2-clause-reads t c = first_of (search rules, grind (arith, common_steps))

pub alternatives-alternatives-init : goal.alternatives-alternatives-init
unfolding several_by
alternatives-alternatives-init t c = first_of (search rules, grind (arith, common_steps))

pub alternatives-returns-in_err-cond_within-3-clause-reads : goal.alternatives-returns-in_err-cond_within-3-clause-reads
alternatives-returns-in_err-cond_within-3-clause-reads t c =
    let e = c.alternatives.invariant.reads ∙ mark_go is_or some_or some_or_is _ (spec.cond c.args.groups) (SpellsCond c.args.groups) (Lacks comma) ListEnds or_meets (good_cond c.args.groups) c.alternatives.all.items c.alternatives.tokens c.eat.new.self _ c.eat.ensures.seen c.eat.ensures.moved c.alternatives-test.true in
    first_of (search rules, grind (arith, common_steps))

pub alternatives-alternatives-preserved : goal.alternatives-alternatives-preserved
alternatives-alternatives-preserved t c =
    let e = c.alternatives.invariant.reads ∙ mark_go is_or some_or some_or_is _ (spec.cond c.args.groups) (SpellsCond c.args.groups) (Lacks comma) ListEnds or_meets (good_cond c.args.groups) c.alternatives.all.items c.alternatives.tokens c.eat.new.self _ c.eat.ensures.seen c.eat.ensures.moved c.alternatives-test.true in
    first_of (search rules, grind (arith, common_steps))

pub alternatives-returns-clause-reads : goal.alternatives-returns-clause-reads
alternatives-returns-clause-reads t c =
    let e = c.alternatives.invariant.reads ∙ mark_stop is_or some_or some_or_is _ (spec.cond c.args.groups) (SpellsCond c.args.groups) (Lacks comma) ListEnds or_meets (good_cond c.args.groups) c.alternatives.all.items c.alternatives.tokens c.eat.new.self _ c.eat.ensures.seen c.eat.ensures.moved c.alternatives-test.false in
    first_of (search rules, grind (arith, common_steps))

pub group-returns-then-groups-eq0-clause-reads : goal.group-returns-then-groups-eq0-clause-reads
group-returns-then-groups-eq0-clause-reads t c = let e = group_none c.args.groups c.args.tokens.now.left (omega arith) in first_of (search rules, grind (arith, common_steps))

pub group-returns-clause-reads : goal.group-returns-clause-reads
group-returns-clause-reads t c = let e = group_opened c.args.groups c.args.tokens.now.left (omega arith) in rw e c.opened_group.ensures.reads
