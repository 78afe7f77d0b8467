-- The grammar of a whole source: which tokens spell which tree.
use Rattle.std.specs.Prelude.{ℕ, List, ◌++◌}
use Rattle.ssi_lexer.specs.Lexemes.{Lexeme}
use Rattle.ssi_terms.specs.Identities.{SpellsIdentities}
use Rattle.ssi_prr.specs.Requests.{SpellsRequests}
use Rattle.ssi_pfm.specs.Rules.{SpellsRules}
use Rattle.ssi_fop.specs.Statements.{SpellsStatements}
use Rattle.ssi_opt.specs.Outputs.{SpellsOutputs}
use Rattle.ssi_ipt.specs.Inputs.{SpellsInputs}
use Rattle.ssi_names.specs.SourceTexts.{SourceText}

-- the files of identities, then PRR, PFM, FOP, OPT and IPT, in which levels of groups and of choices may lie so deep
pub data SpellsSource (depth : ℕ) : SourceText → List Lexeme → Type 0 where
  the_source : (tree : SourceText) (identities requests free statements outputs inputs : List Lexeme)
      → SpellsIdentities tree.identities identities
      → SpellsRequests depth tree.requests requests
      → SpellsRules depth tree.free free
      → SpellsStatements depth tree.statements statements
      → SpellsOutputs depth tree.outputs outputs
      → SpellsInputs depth tree.inputs inputs
      → SpellsSource depth tree (identities ++ (requests ++ (free ++ (statements ++ (outputs ++ inputs)))))
