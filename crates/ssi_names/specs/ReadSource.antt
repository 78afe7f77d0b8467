-- What the reader of a whole source computes, as a function of the tokens that are left. Proofs go by it; no clause of
-- `read_source` cites it, since Sources says what is read.
use Rattle.std.specs.Prelude.{ℕ}
use Rattle.ssi_lexer.specs.Parsers.{Parser, ◌&◌, mapped}
use Rattle.ssi_terms.specs.ReadIdentities.{identities}
use Rattle.ssi_prr.specs.ReadRequests.{requests}
use Rattle.ssi_pfm.specs.ReadRules.{rules}
use Rattle.ssi_fop.specs.ReadStatements.{statements}
use Rattle.ssi_opt.specs.ReadOutputs.{outputs}
use Rattle.ssi_ipt.specs.ReadInputs.{inputs}
use Rattle.ssi_names.specs.SourceTexts.{SourceText}

unfoldable pub source : ℕ → Parser SourceText
source depth =
    mapped (λ x. record { identities = x.0; requests = x.1.0; free = x.1.1.0; statements = x.1.1.1.0; outputs = x.1.1.1.1.0; inputs = x.1.1.1.1.1 })
    (identities & (requests depth & (rules depth & (statements depth & (outputs depth & inputs depth)))))
