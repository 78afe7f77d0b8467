-- The grammar of OPT: which tokens spell which tree.
use Rattle.std.specs.Prelude.{ℕ, codes, List, [], ◌∷◌, ◌++◌}
use Rattle.ssi_lexer.specs.Lexemes.{Lexeme}
use Rattle.ssi_lexer.specs.TokenTests.{Is, word, dot}
use Rattle.ssi_lexer.specs.Languages.{ListedBy}
use Rattle.ssi_terms.specs.declared.tree.Spot.{Spot}
use Rattle.ssi_terms.specs.declared.tree.CondTree.{CondTree}
use Rattle.ssi_terms.specs.Tests.{spot_of, any_number}
use Rattle.ssi_terms.specs.Grammar.{SpellsCond}
use Rattle.ssi_terms.specs.Identities.{SpellsFile}

-- a module's address, and the bits that are sent to it: each bit's number with the condition under which it is 1
pub record OutputText : Type 0 where
  pub address : Spot
  pub bits : List (Spot × CondTree)

abbrev pub OutputsText : Type 0
OutputsText = List OutputText

-- N if cond , where levels of groups may lie so deep
pub data SpellsBit (depth : ℕ) : Spot × CondTree → List Lexeme → Type 0 where
  a_bit : (n i : Lexeme) (cond : CondTree) (u : List Lexeme) → Is any_number n → Is (word (codes "if")) i → SpellsCond depth cond u → SpellsBit depth (spot_of n, cond) (n ∷ i ∷ u)

-- an entry = N bit N if cond { bit N if cond } .
pub data SpellsOutput (depth : ℕ) : OutputText → List Lexeme → Type 0 where
  an_output : (n b d : Lexeme) (bits : List (Spot × CondTree)) (u : List Lexeme) → Is any_number n → Is (word (codes "bit")) b
      → ListedBy (word (codes "bit")) (Spot × CondTree) (SpellsBit depth) bits u → Is dot d
      → SpellsOutput depth (record { address = spot_of n; bits = bits }) (n ∷ b ∷ (u ++ (d ∷ [])))

-- the file
abbrev pub SpellsOutputs : ℕ → OutputsText → List Lexeme → Type 0
SpellsOutputs depth = SpellsFile (codes "OPT") OutputText (SpellsOutput depth)
