use Rattle.std.proofs.Common.{◌∙◌, sym, arith, rules}
use Rattle.std.proofs.lemmas.Grind.{common_steps}
use Rattle.ssi_lexer.specs.Laws.{Always}
use Rattle.ssi_lexer.proofs.Repeating.{turns_go, turns_stop}
use Rattle.ssi_lexer.proofs.parts.entries.Goals as goal

pub returns-in_err-read-clause-reads : goal.returns-in_err-read-clause-reads
returns-in_err-read-clause-reads g c =
    let e = c.entries.invariant.reads ∙ turns_go _ (g.E.Entry.opens c.args.entry.now) (g.E.Part.parser c.args.entry.now) (g.E.Part.language c.args.entry.now) Always Always (g.met.E.Entry.starts c.args.entry.now) (λ ts seen. tt) (g.met.E.Part.good c.args.entry.now) c.entries.all.items c.entries.tokens.left (sym c.begins.ensures ∙ c.entries-test.true) in
    first_of (search rules, grind (arith, common_steps))

pub entries-preserved : goal.entries-preserved
entries-preserved g c =
    let e = c.entries.invariant.reads ∙ turns_go _ (g.E.Entry.opens c.args.entry.now) (g.E.Part.parser c.args.entry.now) (g.E.Part.language c.args.entry.now) Always Always (g.met.E.Entry.starts c.args.entry.now) (λ ts seen. tt) (g.met.E.Part.good c.args.entry.now) c.entries.all.items c.entries.tokens.left (sym c.begins.ensures ∙ c.entries-test.true) in
    first_of (search rules, grind (arith, common_steps))

pub returns-clause-reads : goal.returns-clause-reads
returns-clause-reads g c =
    c.entries.invariant.reads ∙ turns_stop _ (g.E.Entry.opens c.args.entry.now) (g.E.Part.parser c.args.entry.now) (g.E.Part.language c.args.entry.now) Always Always (g.met.E.Entry.starts c.args.entry.now) (λ ts seen. tt) (g.met.E.Part.good c.args.entry.now) c.entries.all.items c.entries.tokens.left (sym c.begins.ensures ∙ c.entries-test.false)
