use Rattle.std.proofs.Common.{◌∙◌, arith, rules}
use Rattle.std.proofs.lemmas.Grind.{common_steps}
use Rattle.ssi_lexer.specs.Parsers.{separated_by}
use Rattle.ssi_lexer.specs.Laws.{Lacks}
use Rattle.ssi_lexer.specs.TokenTests.{comma}
use Rattle.ssi_lexer.proofs.Listing.{mark_go, mark_stop}
use Rattle.ssi_terms.specs.Grammar.{deepest}
use Rattle.ssi_terms.proofs.CondRules.{ListEnds}
use Rattle.ssi_opt.specs.Outputs.{SpellsBit}
use Rattle.ssi_opt.specs.OutputRules.{is_bit, some_bit, some_bit_is, bit_meets, good_bit}
use Rattle.ssi_opt.specs.ReadOutputs as spec
use Rattle.ssi_opt.proofs.file.bits.Goals as goal

pub returns-in_err-bit-clause-reads : goal.returns-in_err-bit-clause-reads
unfolding separated_by
returns-in_err-bit-clause-reads c = first_of (search rules, grind (arith, common_steps))

pub bits-init : goal.bits-init
unfolding separated_by
bits-init c = first_of (search rules, grind (arith, common_steps))

pub returns-in_err-bit-2-clause-reads : goal.returns-in_err-bit-2-clause-reads
returns-in_err-bit-2-clause-reads c =
    let e = c.bits.invariant.reads ∙ mark_go is_bit some_bit some_bit_is _ (spec.output_bit deepest) (SpellsBit deepest) (Lacks comma) ListEnds bit_meets (good_bit deepest) c.bits.all.items c.bits.tokens c.eat.new.self _ c.eat.ensures.seen c.eat.ensures.moved c.bits-test.true in
    first_of (search rules, grind (arith, common_steps))

pub bits-preserved : goal.bits-preserved
bits-preserved c =
    let e = c.bits.invariant.reads ∙ mark_go is_bit some_bit some_bit_is _ (spec.output_bit deepest) (SpellsBit deepest) (Lacks comma) ListEnds bit_meets (good_bit deepest) c.bits.all.items c.bits.tokens c.eat.new.self _ c.eat.ensures.seen c.eat.ensures.moved c.bits-test.true in
    first_of (search rules, grind (arith, common_steps))

pub returns-clause-reads : goal.returns-clause-reads
returns-clause-reads c =
    rw c.shrink_to_fit.ensures.items
    (c.bits.invariant.reads ∙ mark_stop is_bit some_bit some_bit_is _ (spec.output_bit deepest) (SpellsBit deepest) (Lacks comma) ListEnds bit_meets (good_bit deepest) c.bits.all.items c.bits.tokens c.eat.new.self _ c.eat.ensures.seen c.eat.ensures.moved c.bits-test.false)
