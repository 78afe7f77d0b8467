-- The grammar of PRR: which tokens spell which tree.
use Rattle.std.specs.Prelude.{ℕ, codes, List, [], ◌∷◌, ◌++◌}
use Rattle.ssi_lexer.specs.Lexemes.{Lexeme}
use Rattle.ssi_lexer.specs.TokenTests.{Is, dot}
use Rattle.ssi_terms.specs.declared.tree.Spot.{Spot}
use Rattle.ssi_terms.specs.declared.tree.BodyTree.{BodyTree}
use Rattle.ssi_terms.specs.Tests.{spot_of, request}
use Rattle.ssi_terms.specs.Grammar.{SpellsBody}
use Rattle.ssi_terms.specs.Identities.{SpellsFile}

-- each request's name with its body
abbrev pub RequestsText : Type 0
RequestsText = List (Spot × BodyTree)

-- an entry = Q body . , where levels of groups and of choices may lie so deep
pub data SpellsRequest (depth : ℕ) : Spot × BodyTree → List Lexeme → Type 0 where
  a_request : (n d : Lexeme) (body : BodyTree) (u : List Lexeme) → Is request n → SpellsBody depth body u → Is dot d → SpellsRequest depth (spot_of n, body) (n ∷ (u ++ (d ∷ [])))

-- the file
abbrev pub SpellsRequests : ℕ → RequestsText → List Lexeme → Type 0
SpellsRequests depth = SpellsFile (codes "PRR") (Spot × BodyTree) (SpellsRequest depth)
