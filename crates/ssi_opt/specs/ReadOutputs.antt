-- What the reader of OPT computes, as a function of the tokens that are left. Proofs go by it, and the part that is offered
-- to the layers above; no clause of `read_file` cites it, since Outputs says what is read.
use Rattle.std.specs.Prelude.{ℕ, codes, List}
use Rattle.ssi_lexer.specs.TokenTests.{word, dot}
use Rattle.ssi_lexer.specs.Parsers.{Parser, ◌&◌, mapped, tok, separated_by}
use Rattle.ssi_terms.specs.declared.tree.Spot.{Spot}
use Rattle.ssi_terms.specs.declared.tree.CondTree.{CondTree}
use Rattle.ssi_terms.specs.Tests.{any_number}
use Rattle.ssi_terms.specs.Read.{spot, cond}
use Rattle.ssi_terms.specs.ReadIdentities.{file}
use Rattle.ssi_opt.specs.Outputs.{OutputText}

unfoldable pub output_bit : ℕ → Parser (Spot × CondTree)
output_bit depth = mapped (λ x. (x.0, x.1.1)) (spot any_number & (tok (word (codes "if")) & cond depth))

unfoldable pub output_entry : ℕ → Parser OutputText
output_entry depth =
    mapped (λ x. record { address = x.0; bits = x.1.1.0 })
    (spot any_number & (tok (word (codes "bit")) & (separated_by (word (codes "bit")) (output_bit depth) & tok dot)))

unfoldable pub outputs : ℕ → Parser (List OutputText)
outputs depth = file (codes "OPT") any_number (output_entry depth)
