use Rattle.std.proofs.Common.{◌∙◌, arith, rules}
use Rattle.std.proofs.lemmas.Grind.{common_steps}
use Rattle.ssi_lexer.specs.Parsers.{separated_by}
use Rattle.ssi_lexer.specs.TokenTests.{comma}
use Rattle.ssi_lexer.specs.Laws.{Always}
use Rattle.ssi_lexer.proofs.Listing.{some_comma, some_comma_is, mark_go, mark_stop}
use Rattle.ssi_lexer.proofs.parts.separated.Goals as goal

pub returns-in_err-read-clause-reads : goal.returns-in_err-read-clause-reads
unfolding separated_by
returns-in_err-read-clause-reads g c = first_of (search rules, grind (arith, common_steps))

pub parts-init : goal.parts-init
unfolding separated_by
parts-init g c = first_of (search rules, grind (arith, common_steps))

pub returns-in_err-read-2-clause-reads : goal.returns-in_err-read-2-clause-reads
returns-in_err-read-2-clause-reads g c =
    let e = c.parts.invariant.reads ∙ mark_go comma some_comma some_comma_is _ (g.P.Part.parser c.args.part.now) (g.P.Part.language c.args.part.now) Always Always (λ ts seen. tt) (g.met.P.Part.good c.args.part.now) c.parts.all.items c.parts.tokens c.eat.new.self _ c.eat.ensures.seen c.eat.ensures.moved c.parts-test.true in
    first_of (search rules, grind (arith, common_steps))

pub parts-preserved : goal.parts-preserved
parts-preserved g c =
    let e = c.parts.invariant.reads ∙ mark_go comma some_comma some_comma_is _ (g.P.Part.parser c.args.part.now) (g.P.Part.language c.args.part.now) Always Always (λ ts seen. tt) (g.met.P.Part.good c.args.part.now) c.parts.all.items c.parts.tokens c.eat.new.self _ c.eat.ensures.seen c.eat.ensures.moved c.parts-test.true in
    first_of (search rules, grind (arith, common_steps))

pub returns-clause-reads : goal.returns-clause-reads
returns-clause-reads g c =
    rw c.shrink_to_fit.ensures.items
    (c.parts.invariant.reads ∙ mark_stop comma some_comma some_comma_is _ (g.P.Part.parser c.args.part.now) (g.P.Part.language c.args.part.now) Always Always (λ ts seen. tt) (g.met.P.Part.good c.args.part.now) c.parts.all.items c.parts.tokens c.eat.new.self _ c.eat.ensures.seen c.eat.ensures.moved c.parts-test.false)
