-- The tokens of a text, each with its characters and its place.
use Rattle.std.specs.Prelude.{◌≡◌, ℕ, ◌+◌, ◌-◌, ◌*◌, ◌≤◌, ◌==◌, true, if◌then◌else◌, List, [], ◌∷◌, ◌++◌, length, take, drop, slice_range, fold, Option, Some, None}
use Rattle.ssi_base.specs.declared.place.Place.{Place}
use Rattle.ssi_lexer.specs.declared.token.TokenKind.{TokenKind}
use Rattle.ssi_lexer.specs.declared.token.Token.{Token}
use Rattle.ssi_lexer.specs.declared.token.TextEnd.{TextEnd}
use Rattle.ssi_lexer.specs.declared.token.TextEnd.TheVariants.{Finished, Faulty}
use Rattle.ssi_lexer.specs.Pieces.{PieceKind, Separator, Comment, A, IsRun, is_piece, Piece, IsCutting}

-- a token with its characters
pub record Lexeme : Type 0 where
  pub kind : TokenKind
  pub text : List ℕ
  pub start : ℕ
  pub number : ℕ
  pub place : Place

abbrev pub token_of : Lexeme → Token
token_of lexeme = record { kind = lexeme.kind; start = lexeme.start; len = length lexeme.text; number = lexeme.number; place = lexeme.place }

-- so many characters of the text from a start on
abbrev pub characters_at : List ℕ → ℕ → ℕ → List ℕ
characters_at text start len = take len (drop start text)

-- the number that decimal digits stand for
abbrev pub value_of_digits : List ℕ → ℕ
value_of_digits digits = fold (λ value digit. 10 * value + (digit - 48)) 0 digits

abbrev pub first_place : Place
first_place = record { line = 1; column = 1 }

-- where the next byte stands: a line feed ends a line, and columns count bytes
abbrev pub place_past : Place → ℕ → Place
place_past place byte = if byte == 10 then record { line = place.line + 1; column = 1 } else record { line = place.line; column = place.column + 1 }

-- the place of a byte that has these bytes before it
abbrev pub place_after : List ℕ → Place
place_after before = fold place_past first_place before

-- the token that a piece is, if it is one, with so many tokens and these bytes before it
abbrev pub lexeme_at : ℕ → ℕ → List ℕ → PieceKind → List ℕ → List Lexeme
lexeme_at start number before Separator bytes = []
lexeme_at start number before Comment bytes = []
lexeme_at start number before (A kind) bytes =
    record { kind = kind; text = bytes; start = start + length before; number = number; place = place_after before } ∷ []

-- the tokens among pieces that stand one after another
abbrev pub lexemes_of : ℕ → ℕ → List ℕ → List Piece → List Lexeme
lexemes_of start number before [] = []
lexemes_of start number before (piece ∷ pieces) =
    let here = lexeme_at start number before piece.kind piece.bytes in
    here ++ lexemes_of start (number + length here) (before ++ piece.bytes) pieces

abbrev pub bytes_of : List Piece → List ℕ
bytes_of [] = []
bytes_of (piece ∷ pieces) = piece.bytes ++ bytes_of pieces

-- how the tokens end: with the text, or at a fault
abbrev pub end_at : Place → Option ℕ → TextEnd
end_at place None = Finished place
end_at place (Some code) = Faulty (record { code = code; place = place })

-- the tokens of the text from a byte on, and how they end; lines and columns count from that byte
pub record AreTokens (text : List ℕ) (start : ℕ) (lexemes : List Lexeme) (end : TextEnd) : Type 0 where
  pub pieces : List Piece
  pub fault : Option ℕ
  pub cut : IsCutting pieces (drop start text) fault
  pub lexemes_are : lexemes ≡ lexemes_of start 0 [] pieces
  pub end_is : end ≡ end_at (place_after (bytes_of pieces)) fault

-- the token's characters are, by themselves, a piece of its kind
pub record IsLexeme (lexeme : Lexeme) : Type 0 where
  pub run : IsRun (A lexeme.kind) lexeme.text []
  pub piece : is_piece (A lexeme.kind) lexeme.text ≡ true

-- the token's characters are the bytes of the text from its start on
pub record StandsIn (text : List ℕ) (lexeme : Lexeme) : Type 0 where
  pub within : lexeme.start + length lexeme.text ≤ length text
  pub there : slice_range text lexeme.start (lexeme.start + length lexeme.text) ≡ lexeme.text
