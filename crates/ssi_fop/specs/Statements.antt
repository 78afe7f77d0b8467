-- The grammar of FOP: which tokens spell which tree.
use Rattle.std.specs.Prelude.{ℕ, codes, List, [], ◌∷◌, ◌++◌}
use Rattle.ssi_lexer.specs.Lexemes.{Lexeme}
use Rattle.ssi_lexer.specs.TokenTests.{Is, word, dot}
use Rattle.ssi_lexer.specs.Languages.{Listed}
use Rattle.ssi_terms.specs.declared.tree.CommandTree.{CommandTree}
use Rattle.ssi_terms.specs.declared.tree.CondTree.{CondTree}
use Rattle.ssi_terms.specs.Grammar.{SpellsCommand, SpellsCond}
use Rattle.ssi_terms.specs.Identities.{SpellsFile}

-- a statement: its commands, and the condition under which they act
pub record StatementText : Type 0 where
  pub commands : List CommandTree
  pub guard : CondTree

abbrev pub StatementsText : Type 0
StatementsText = List StatementText

-- an entry = command { , command } if cond . , where levels of groups may lie so deep
pub data SpellsStatement (depth : ℕ) : StatementText → List Lexeme → Type 0 where
  a_statement : (i d : Lexeme) (commands : List CommandTree) (guard : CondTree) (u v : List Lexeme) → Listed CommandTree SpellsCommand commands u → Is (word (codes "if")) i → SpellsCond depth guard v → Is dot d
      → SpellsStatement depth (record { commands = commands; guard = guard }) (u ++ (i ∷ (v ++ (d ∷ []))))

-- the file
abbrev pub SpellsStatements : ℕ → StatementsText → List Lexeme → Type 0
SpellsStatements depth = SpellsFile (codes "FOP") StatementText (SpellsStatement depth)
