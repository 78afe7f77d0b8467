-- What the reader of IPT computes, as a function of the tokens that are left. Proofs go by it, and the part that is offered
-- to the layers above; no clause of `read_file` cites it, since Inputs says what is read.
use Rattle.std.specs.Prelude.{ℕ, codes, List}
use Rattle.ssi_lexer.specs.TokenTests.{dot}
use Rattle.ssi_lexer.specs.Parsers.{Parser, ◌&◌, mapped, tok}
use Rattle.ssi_terms.specs.declared.tree.Spot.{Spot}
use Rattle.ssi_terms.specs.declared.tree.BodyTree.{BodyTree}
use Rattle.ssi_terms.specs.Tests.{any_number}
use Rattle.ssi_terms.specs.Read.{spot, body}
use Rattle.ssi_terms.specs.ReadIdentities.{file}

unfoldable pub input_entry : ℕ → Parser (Spot × BodyTree)
input_entry depth = mapped (λ x. (x.0, x.1.0)) (spot any_number & (body depth depth & tok dot))

unfoldable pub inputs : ℕ → Parser (List (Spot × BodyTree))
inputs depth = file (codes "IPT") any_number (input_entry depth)
