-- FOP, by the depth of its conditions: the reader reads its rule of the grammar.
use Rattle.std.proofs.Common.{ℕ, suc, codes, List}
use Rattle.ssi_lexer.specs.Laws.{Always, Lacks, Deepens, Deep}
use Rattle.ssi_lexer.proofs.Choosing.{Without}
use Rattle.ssi_lexer.proofs.Deepening.{deep_mapped, deep_both, deep_tok, deep_separated}
use Rattle.ssi_lexer.proofs.Spellings.{Follows}
use Rattle.ssi_lexer.specs.TokenTests.{word, dot}
use Rattle.ssi_terms.specs.Tests.{any_identity, ends_file}
use Rattle.ssi_terms.proofs.CondRules.{deep_cond}
use Rattle.ssi_terms.proofs.BodyRules.{deep_command}
use Rattle.ssi_terms.proofs.IdentityFiles.{follows_file, file_by_depth, no_identity}
use Rattle.ssi_fop.specs.Statements.{StatementText, StatementsText, SpellsStatements}
use Rattle.ssi_fop.specs.ReadStatements as spec
use Rattle.ssi_fop.specs.StatementRules.{good_statement, statement_starts}

deep_statement : (depth : ℕ) → Deepens StatementText (spec.statement_entry depth) (spec.statement_entry (suc depth))
unfolding spec.statement_entry
deep_statement depth =
    deep_mapped (λ x. record { commands = x.0; guard = x.1.1.0 })
    (deep_both (deep_separated deep_command) (deep_both (deep_tok (word (codes "if"))) (deep_both (deep_cond depth) (deep_tok dot))))

pub files : Deep StatementsText spec.statements SpellsStatements (Lacks any_identity) (Without any_identity Always)
unfolding spec.statements
files = file_by_depth (codes "FOP") any_identity statement_starts (record { good = good_statement; deepens = deep_statement })

pub files_follow : Follows (Without any_identity Always) ends_file
files_follow = follows_file any_identity (no_identity (codes "PSTRUL"))
