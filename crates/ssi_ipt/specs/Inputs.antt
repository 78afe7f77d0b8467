-- The grammar of IPT: which tokens spell which tree.
use Rattle.std.specs.Prelude.{ℕ, codes, List, [], ◌∷◌, ◌++◌}
use Rattle.ssi_lexer.specs.Lexemes.{Lexeme}
use Rattle.ssi_lexer.specs.TokenTests.{Is, dot}
use Rattle.ssi_terms.specs.declared.tree.Spot.{Spot}
use Rattle.ssi_terms.specs.declared.tree.BodyTree.{BodyTree}
use Rattle.ssi_terms.specs.Tests.{spot_of, any_number}
use Rattle.ssi_terms.specs.Grammar.{SpellsBody}
use Rattle.ssi_terms.specs.Identities.{SpellsFile}

-- each address with its body: what a report of the module there does
abbrev pub InputsText : Type 0
InputsText = List (Spot × BodyTree)

-- an entry = N body . , where levels of groups and of choices may lie so deep
pub data SpellsInput (depth : ℕ) : Spot × BodyTree → List Lexeme → Type 0 where
  an_input : (n d : Lexeme) (body : BodyTree) (u : List Lexeme) → Is any_number n → SpellsBody depth body u → Is dot d → SpellsInput depth (spot_of n, body) (n ∷ (u ++ (d ∷ [])))

-- the file
abbrev pub SpellsInputs : ℕ → InputsText → List Lexeme → Type 0
SpellsInputs depth = SpellsFile (codes "IPT") (Spot × BodyTree) (SpellsInput depth)
