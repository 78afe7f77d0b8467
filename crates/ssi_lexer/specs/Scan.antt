-- How the code finds the tokens of a text, from the front to the end. This is no part of what a caller is told:
-- no clause of a public call cites this file, and each says by the cutting of the text alone what it says.
use Rattle.std.specs.Prelude.{◌≡◌, ℕ, zero, suc, ◌+◌, ◌<◌, ◌≤◌, ◌==◌, Bool, true, false, if◌then◌else◌, List, [], ◌∷◌, length, fold, Option, Some, None}
use Rattle.ssi_lexer.specs.Limits.{text_limit}
use Rattle.ssi_lexer.specs.declared.token.TokenKind.{TokenKind}
use Rattle.ssi_lexer.specs.declared.token.TokenKind.TheVariants.{Name, Word, Number, Comma, Dot, Open, Close}
use Rattle.ssi_lexer.specs.declared.token.Token.{Token}
use Rattle.ssi_lexer.specs.declared.token.TextEnd.{TextEnd}
use Rattle.ssi_lexer.specs.declared.token.TextEnd.TheVariants.{Faulty}
use Rattle.ssi_lexer.specs.declared.scan.Cursor.{Cursor}
use Rattle.ssi_lexer.specs.declared.scan.Ahead.{Ahead}
use Rattle.ssi_lexer.specs.declared.scan.Front.{Front}
use Rattle.ssi_lexer.specs.declared.scan.Ahead.TheVariants.{Next, End}
use Rattle.ssi_lexer.specs.Pieces.{PieceKind, Separator, Comment, A, Piece, is_separator, is_capital, is_small, is_digit, lengthens, is_piece, bad_character_code, long_name_code, bad_number_code}
use Rattle.ssi_lexer.specs.Lexemes.{Lexeme, place_past, end_at}

-- the kind of the token that begins with the byte
abbrev pub token_kind_at : ℕ → Option TokenKind
token_kind_at byte =
    if is_capital byte then Some Name
    else (if is_small byte then Some Word
    else (if is_digit byte then Some Number
    else (if byte == 44 then Some Comma
    else (if byte == 46 then Some Dot
    else (if byte == 40 then Some Open
    else (if byte == 41 then Some Close else None))))))

-- as the kind of a piece
abbrev pub a_token : Option TokenKind → Option PieceKind
a_token None = None
a_token (Some kind) = Some (A kind)

-- the kind of the piece that begins with the byte
abbrev pub kind_at : ℕ → Option PieceKind
kind_at byte = if is_separator byte then Some Separator else (if byte == 47 then Some Comment else a_token (token_kind_at byte))

-- the bytes from here on that make a piece of the kind longer
abbrev pub run_of : PieceKind → List ℕ → List ℕ
run_of kind [] = []
run_of kind (byte ∷ bytes) = if lengthens kind byte then byte ∷ run_of kind bytes else []

-- the bytes after those
abbrev pub rest_of : PieceKind → List ℕ → List ℕ
rest_of kind [] = []
rest_of kind (byte ∷ bytes) = if lengthens kind byte then rest_of kind bytes else byte ∷ bytes

-- the pieces of a text, and the fault that ends them
pub record Cut : Type 0 where
  pub pieces : List Piece
  pub fault : Option ℕ

-- no more pieces
abbrev pub no_pieces : Option ℕ → Cut
no_pieces fault = record { pieces = []; fault = fault }

-- the code of a run of the kind that is no piece
abbrev pub code_of : PieceKind → ℕ
code_of (A Number) = bad_number_code
code_of Separator = long_name_code
code_of Comment = long_name_code
code_of (A Name) = long_name_code
code_of (A Word) = long_name_code
code_of (A Comma) = long_name_code
code_of (A Dot) = long_name_code
code_of (A Open) = long_name_code
code_of (A Close) = long_name_code

-- with a piece in front, where the run is one
abbrev pub with_piece : Bool → PieceKind → List ℕ → Cut → Cut
with_piece true kind run cut = record { pieces = record { kind = kind; bytes = run } ∷ cut.pieces; fault = cut.fault }
with_piece false kind run cut = no_pieces (Some (code_of kind))

-- the pieces of a text that begins with a piece of the kind, or with none
abbrev pub begun : Option PieceKind → ℕ → List ℕ → (PieceKind → Cut) → Cut
begun None byte bytes after = no_pieces (Some bad_character_code)
begun (Some kind) byte bytes after = let run = byte ∷ run_of kind bytes in with_piece (is_piece kind run) kind run (after kind)

-- a text of no more than so many bytes, cut: each piece takes a byte at least, so the count is never used up first
unfoldable pub cut_within : ℕ → List ℕ → Cut
cut_within zero bytes = no_pieces None
cut_within (suc count) [] = no_pieces None
cut_within (suc count) (byte ∷ bytes) = begun (kind_at byte) byte bytes (λ kind. cut_within count (rest_of kind bytes))

-- a text, cut
abbrev pub cut_of : List ℕ → Cut
cut_of bytes = cut_within (length bytes) bytes

-- how many tokens a piece is
abbrev pub count_of : PieceKind → ℕ
count_of Separator = 0
count_of Comment = 0
count_of (A kind) = 1

-- where the text goes on after a piece
abbrev pub past : Cursor → PieceKind → List ℕ → Cursor
past cursor kind bytes =
    record { start = cursor.start + length bytes; number = cursor.number + count_of kind; place = fold place_past cursor.place bytes }

-- past so many bytes with no line feed among them, none of them a token's
abbrev pub right : Cursor → ℕ → Cursor
right cursor count =
    record { start = cursor.start + count; number = cursor.number; place = record { line = cursor.place.line; column = cursor.place.column + count } }

-- past a token of so many bytes
abbrev pub past_token : Cursor → ℕ → Cursor
past_token cursor count =
    record { start = cursor.start + count; number = cursor.number + 1; place = record { line = cursor.place.line; column = cursor.place.column + count } }

-- the tokens that are left, and how they end
abbrev pub Stream : Type 0
Stream = List Lexeme × TextEnd

-- no token, and that end
abbrev pub no_more : TextEnd → Stream
no_more end = ([], end)

-- no token, and a fault of that code at the next byte
abbrev pub faulty_here : Cursor → ℕ → Stream
faulty_here cursor code = no_more (Faulty (record { code = code; place = cursor.place }))

-- with a token in front, where the piece is one
abbrev pub with_lexeme : PieceKind → List ℕ → Cursor → Stream → Stream
with_lexeme Separator bytes cursor stream = stream
with_lexeme Comment bytes cursor stream = stream
with_lexeme (A kind) bytes cursor stream =
    (record { kind = kind; text = bytes; start = cursor.start; number = cursor.number; place = cursor.place } ∷ stream.0, stream.1)

-- the tokens of pieces that stand one after another
abbrev pub stream_of : Cursor → List Piece → Option ℕ → Stream
stream_of cursor [] fault = no_more (end_at cursor.place fault)
stream_of cursor (piece ∷ pieces) fault =
    with_lexeme piece.kind piece.bytes cursor (stream_of (past cursor piece.kind piece.bytes) pieces fault)

-- the tokens of a text that is cut so
abbrev pub stream_by : Cursor → Cut → Stream
stream_by cursor cut = stream_of cursor cut.pieces cut.fault

-- the tokens from a byte of the text on
abbrev pub stream : Cursor → List ℕ → Stream
stream cursor bytes = stream_by cursor (cut_of bytes)

-- the token of the kind and of so many bytes
abbrev pub token_at : TokenKind → Cursor → ℕ → Token
token_at kind cursor count = record { kind = kind; start = cursor.start; len = count; number = cursor.number; place = cursor.place }

-- a token with its characters
abbrev pub lexeme_of : Token → List ℕ → Lexeme
lexeme_of token characters =
    record { kind = token.kind; text = characters; start = token.start; number = token.number; place = token.place }

-- the token that was cut in advance, and the tokens after it
abbrev pub goes_on : Ahead → List ℕ → Stream → Stream
goes_on (Next token) characters stream = (lexeme_of token characters ∷ stream.0, stream.1)
goes_on (End end) characters stream = no_more end

-- what stands in front, and then the tokens of the rest
abbrev pub tokens_of : Front → Stream
tokens_of front = goes_on front.ahead front.characters.now (stream front.cursor front.rest.now)

-- neither a separator nor a comment begins with the byte
pub record IsNoGap (byte : ℕ) : Type 0 where
  pub no_separator : is_separator byte ≡ false
  pub no_comment : (byte == 47) ≡ false

-- Tokens, lines and columns are no more than the bytes before, and with so many more these are within the longest text:
-- so no place, number or start is too large for its type.
pub record IsWithin (cursor : Cursor) (more : ℕ) : Type 0 where
  pub start : cursor.start + more ≤ text_limit
  pub number : cursor.number ≤ cursor.start
  pub line : cursor.place.line ≤ cursor.start + 1
  pub column : cursor.place.column ≤ cursor.start + 1

-- the text goes on so after a separator or a comment in front
pub record IsPastGap (after : Cursor) (rest : List ℕ) (cursor : Cursor) (bytes : List ℕ) : Type 0 where
  pub tokens : stream after rest ≡ stream cursor bytes
  pub shorter : length rest < length bytes
  pub within : IsWithin after (length rest)

-- the characters are those of the token that was cut in advance
abbrev pub AreItsCharacters : Ahead → List ℕ → Type 0
AreItsCharacters (Next token) characters = token.len ≡ length characters
AreItsCharacters (End end) characters = characters ≡ []

-- what the code cuts off in front of the text: it gives the same tokens as the text
pub record IsFront (front : Front) (cursor : Cursor) (bytes : List ℕ) : Type 0 where
  pub tokens : tokens_of front ≡ stream cursor bytes
  pub within : IsWithin front.cursor (length front.rest.now)
  pub characters : AreItsCharacters front.ahead front.characters.now
