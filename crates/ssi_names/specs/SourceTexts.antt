-- The tree of a whole source, as plain lists.
use Rattle.ssi_terms.specs.Trees.{IdentityText}
use Rattle.ssi_prr.specs.Requests.{RequestsText}
use Rattle.ssi_pfm.specs.Rules.{RulesText}
use Rattle.ssi_fop.specs.Statements.{StatementsText}
use Rattle.ssi_opt.specs.Outputs.{OutputsText}
use Rattle.ssi_ipt.specs.Inputs.{InputsText}

-- the files of identities; then the requests, when points are free, the statements, what goes out to modules, and what comes in
pub record SourceText : Type 0 where
  pub identities : IdentityText
  pub requests : RequestsText
  pub free : RulesText
  pub statements : StatementsText
  pub outputs : OutputsText
  pub inputs : InputsText
