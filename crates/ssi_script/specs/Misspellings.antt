-- Tokens that aren't spelled as they should be, and the place that shows it.
use Rattle.std.specs.Prelude.{◌≡◌, List, [], ◌∷◌, ◌++◌}
use Rattle.ssi_base.specs.declared.place.Place.{Place}
use Rattle.ssi_lexer.specs.declared.token.TextEnd.{TextEnd}
use Rattle.ssi_lexer.specs.declared.token.TextEnd.TheVariants.{Finished, Faulty}
use Rattle.ssi_lexer.specs.Lexemes.{Lexeme}
use Rattle.ssi_lexer.specs.Spelling.{Begins, NeedsMore}

-- Behind these tokens no spelling goes on: at the token that comes next; at the end of the text, where more is needed; or where the text goes on with no token.
abbrev pub StopsAt : (A : Type 0) → (A → List Lexeme → Type 0) → List Lexeme → List Lexeme → TextEnd → Place → Type 0
StopsAt A S front [] (Finished past) place = place ≡ past
StopsAt A S front [] (Faulty fault) place = place ≡ fault.place
StopsAt A S front (t ∷ ts) end place = (place ≡ t.place) × ¬ Begins A S (front ++ (t ∷ []))

-- The place of the first token that shows that no spelling comes next. With the tokens before some begins, and it goes on.
pub record IsMisspelled (A : Type 0) (S : A → List Lexeme → Type 0) (left : List Lexeme) (end : TextEnd) (place : Place) : Type 0 where
  pub front : List Lexeme
  pub rest : List Lexeme
  pub parts : left ≡ front ++ rest
  pub begins : NeedsMore A S front
  pub stops : StopsAt A S front rest end place
