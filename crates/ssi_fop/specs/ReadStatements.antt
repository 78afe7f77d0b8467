-- What the reader of FOP computes, as a function of the tokens that are left. Proofs go by it, and the part that is offered
-- to the layers above; no clause of `read_file` cites it, since Statements says what is read.
use Rattle.std.specs.Prelude.{ℕ, codes, List}
use Rattle.ssi_lexer.specs.TokenTests.{word, dot}
use Rattle.ssi_lexer.specs.Parsers.{Parser, ◌&◌, mapped, tok, separated}
use Rattle.ssi_terms.specs.Tests.{any_identity}
use Rattle.ssi_terms.specs.Read.{command, cond}
use Rattle.ssi_terms.specs.ReadIdentities.{file}
use Rattle.ssi_fop.specs.Statements.{StatementText}

unfoldable pub statement_entry : ℕ → Parser StatementText
statement_entry depth = mapped (λ x. record { commands = x.0; guard = x.1.1.0 }) (separated command & (tok (word (codes "if")) & (cond depth & tok dot)))

unfoldable pub statements : ℕ → Parser (List StatementText)
statements depth = file (codes "FOP") any_identity (statement_entry depth)
