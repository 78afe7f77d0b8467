use Rattle.ssi_lexer.proofs.Findings.{deep_finds}
use Rattle.ssi_terms.specs.Grammar.{deepest}
use Rattle.ssi_terms.proofs.Endings.{told}
use Rattle.ssi_terms.proofs.CondRules.{conditions, list_follows}
use Rattle.ssi_terms.proofs.conditions.read_cond.Goals as goal

pub returns : goal.returns
returns c =
    let read = c.cond-read in
    let finds = deep_finds _ _ _ _ _ conditions _ list_follows deepest in
    told _ _ _ _ _ finds c.args.tokens.now read.new.tokens read.result c.list_ended.result read.ensures.reads read.ensures.goes_on c.list_ended.ensures
