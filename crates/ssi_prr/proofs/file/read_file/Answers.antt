use Rattle.ssi_lexer.proofs.Findings.{deep_finds}
use Rattle.ssi_terms.specs.Grammar.{deepest}
use Rattle.ssi_terms.proofs.Endings.{told}
use Rattle.ssi_prr.proofs.RequestFiles.{files, files_follow}
use Rattle.ssi_prr.proofs.file.read_file.Goals as goal

pub returns : goal.returns
returns c =
    let read = c.requests-read in
    let finds = deep_finds _ _ _ _ _ files _ files_follow deepest in
    told _ _ _ _ _ finds c.args.tokens.now read.new.tokens read.result c.file_ended.result read.ensures.reads read.ensures.goes_on c.file_ended.ensures
