-- The grammar of PFM: which tokens spell which tree.
use Rattle.std.specs.Prelude.{ℕ, codes, List, [], ◌∷◌, ◌++◌}
use Rattle.ssi_lexer.specs.Lexemes.{Lexeme}
use Rattle.ssi_lexer.specs.TokenTests.{Is, word, dot}
use Rattle.ssi_terms.specs.declared.tree.Spot.{Spot}
use Rattle.ssi_terms.specs.declared.tree.CondTree.{CondTree}
use Rattle.ssi_terms.specs.Tests.{spot_of, points, lie_word}
use Rattle.ssi_terms.specs.Grammar.{SpellsCond}
use Rattle.ssi_terms.specs.Identities.{SpellsFile}

-- each points' name with the word for a lie, and the condition under which they are free to move to it
abbrev pub RulesText : Type 0
RulesText = List (Spot × Spot × CondTree)

-- an entry = P lie if cond . , where levels of groups may lie so deep
pub data SpellsRule (depth : ℕ) : Spot × Spot × CondTree → List Lexeme → Type 0 where
  a_rule : (n l i d : Lexeme) (cond : CondTree) (u : List Lexeme) → Is points n → Is lie_word l → Is (word (codes "if")) i → SpellsCond depth cond u → Is dot d
      → SpellsRule depth (spot_of n, spot_of l, cond) (n ∷ l ∷ i ∷ (u ++ (d ∷ [])))

-- the file
abbrev pub SpellsRules : ℕ → RulesText → List Lexeme → Type 0
SpellsRules depth = SpellsFile (codes "PFM") (Spot × Spot × CondTree) (SpellsRule depth)
