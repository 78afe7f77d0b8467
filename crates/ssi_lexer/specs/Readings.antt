-- What a reader of tokens shows.
use Rattle.std.specs.Prelude.{◌≡◌, ℕ, ◌+◌, ◌<◌, ◌≤◌, Bool, if◌then◌else◌, List, [], ◌∷◌, length, Option, Some, None, Result, Ok, Err}
use Rattle.ssi_lexer.specs.declared.token.TokenKind.TheVariants.{Name, Number}
use Rattle.ssi_lexer.specs.declared.token.Token.{Token}
use Rattle.ssi_lexer.specs.declared.token.LexFault.{LexFault}
use Rattle.ssi_lexer.specs.declared.token.TextEnd.{TextEnd}
use Rattle.ssi_lexer.specs.declared.token.TextEnd.TheVariants.{Finished, Faulty}
use Rattle.ssi_lexer.specs.declared.wanted.Stop.{Stop}
use Rattle.ssi_lexer.specs.declared.wanted.Stop.TheVariants.{Syntax}
use Rattle.ssi_lexer.specs.Lexemes.{Lexeme, token_of}

-- a text, the byte past the last token taken, the tokens that are left, and how they end
pub record Reading : Type 0 where
  pub text : List ℕ
  pub position : ℕ
  pub left : List Lexeme
  pub end : TextEnd

-- the first of the tokens, if one is left
abbrev pub first_of : List Lexeme → Option Token
first_of [] = None
first_of (lexeme ∷ lexemes) = Some (token_of lexeme)

-- the characters of the first token; none where no token is left
abbrev pub first_text : List Lexeme → List ℕ
first_text [] = []
first_text (lexeme ∷ lexemes) = lexeme.text

-- the next token, nothing at the end of the text, or the fault
abbrev pub answer_at : List Lexeme → TextEnd → Result (Option Token) LexFault
answer_at [] (Finished place) = Ok None
answer_at [] (Faulty fault) = Err fault
answer_at (lexeme ∷ lexemes) end = Ok (Some (token_of lexeme))

-- past the next token; the same where none is left
abbrev pub after_first : Reading → List Lexeme → Reading
after_first reading [] = reading
after_first reading (lexeme ∷ lexemes) =
    record { text = reading.text; position = lexeme.start + length lexeme.text; left = lexemes; end = reading.end }

abbrev pub after_next : Reading → Reading
after_next reading = after_first reading reading.left

-- how the tokens end, once none is left
abbrev pub end_if : List Lexeme → TextEnd → Option TextEnd
end_if [] end = Some end
end_if (lexeme ∷ lexemes) end = None

-- a token has a character at least, a name 16 at most, and a number 7 at most
pub record IsShort (token : Token) : Type 0 where
  pub some : 0 < token.len
  pub name : token.kind ≡ Name → token.len ≤ 16
  pub number : token.kind ≡ Number → token.len ≤ 7

-- the first token, which passes the test; a fault of syntax where none does
abbrev pub taken_of : (Lexeme → Bool) → List Lexeme → Result Token Stop
taken_of test [] = Err Syntax
taken_of test (lexeme ∷ lexemes) = if test lexeme then Ok (token_of lexeme) else Err Syntax

-- tokens were taken, perhaps none; the text and the end of its tokens stay
pub record GoesOn (old new : Reading) : Type 0 where
  pub text : new.text ≡ old.text
  pub end : new.end ≡ old.end
  pub fewer : length new.left ≤ length old.left
