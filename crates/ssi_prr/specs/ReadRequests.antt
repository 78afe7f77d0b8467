-- What the reader of PRR computes, as a function of the tokens that are left. Proofs go by it, and the part that is offered
-- to the layers above; no clause of `read_file` cites it, since Requests says what is read.
use Rattle.std.specs.Prelude.{ℕ, codes, List}
use Rattle.ssi_lexer.specs.TokenTests.{dot}
use Rattle.ssi_lexer.specs.Parsers.{Parser, ◌&◌, mapped, tok}
use Rattle.ssi_terms.specs.declared.tree.Spot.{Spot}
use Rattle.ssi_terms.specs.declared.tree.BodyTree.{BodyTree}
use Rattle.ssi_terms.specs.Tests.{request}
use Rattle.ssi_terms.specs.Read.{spot, body}
use Rattle.ssi_terms.specs.ReadIdentities.{file}

unfoldable pub request_entry : ℕ → Parser (Spot × BodyTree)
request_entry depth = mapped (λ x. (x.0, x.1.0)) (spot request & (body depth depth & tok dot))

unfoldable pub requests : ℕ → Parser (List (Spot × BodyTree))
requests depth = file (codes "PRR") request (request_entry depth)
