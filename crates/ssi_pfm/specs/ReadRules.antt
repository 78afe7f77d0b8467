-- What the reader of PFM computes, as a function of the tokens that are left. Proofs go by it, and the part that is offered
-- to the layers above; no clause of `read_file` cites it, since Rules says what is read.
use Rattle.std.specs.Prelude.{ℕ, codes, List}
use Rattle.ssi_lexer.specs.TokenTests.{word, dot}
use Rattle.ssi_lexer.specs.Parsers.{Parser, ◌&◌, mapped, tok}
use Rattle.ssi_terms.specs.declared.tree.Spot.{Spot}
use Rattle.ssi_terms.specs.declared.tree.CondTree.{CondTree}
use Rattle.ssi_terms.specs.Tests.{points, lie_word}
use Rattle.ssi_terms.specs.Read.{spot, cond}
use Rattle.ssi_terms.specs.ReadIdentities.{file}

unfoldable pub rule_entry : ℕ → Parser (Spot × Spot × CondTree)
rule_entry depth = mapped (λ x. (x.0, x.1.0, x.1.1.1.0)) (spot points & (spot lie_word & (tok (word (codes "if")) & (cond depth & tok dot))))

unfoldable pub rules : ℕ → Parser (List (Spot × Spot × CondTree))
rules depth = file (codes "PFM") points (rule_entry depth)
