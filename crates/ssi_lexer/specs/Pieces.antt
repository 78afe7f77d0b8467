-- The pieces that a text is cut into: separators, comments and tokens.
use Rattle.std.specs.Prelude.{◌≡◌, ℕ, Bool, true, false, ◌&&◌, ◌||◌, not, ◌==◌, nat_le, List, [], ◌∷◌, ◌++◌, length, Option, Some, None}
use Rattle.std.specs.List.{AllPass}
use Rattle.ssi_lexer.specs.declared.token.TokenKind.{TokenKind}
use Rattle.ssi_lexer.specs.declared.token.TokenKind.TheVariants.{Name, Word, Number, Comma, Dot, Open, Close}

-- what a piece of a text is: a separator, a comment, or a token of some kind
pub data PieceKind : Type 0 where
  Separator : PieceKind
  Comment : PieceKind
  A : TokenKind → PieceKind

-- a piece of a text: what it is, and its bytes
pub record Piece : Type 0 where
  pub kind : PieceKind
  pub bytes : List ℕ

-- space, tab, carriage return and line feed
abbrev pub is_separator : ℕ → Bool
is_separator byte = byte == 32 || byte == 9 || byte == 13 || byte == 10

abbrev pub is_capital : ℕ → Bool
is_capital byte = nat_le 65 byte && nat_le byte 90

abbrev pub is_small : ℕ → Bool
is_small byte = nat_le 97 byte && nat_le byte 122

abbrev pub is_digit : ℕ → Bool
is_digit byte = nat_le 48 byte && nat_le byte 57

-- whether a piece of this kind begins with the byte
abbrev pub begins : PieceKind → ℕ → Bool
begins Separator byte = is_separator byte
begins Comment byte = byte == 47
begins (A Name) byte = is_capital byte
begins (A Word) byte = is_small byte
begins (A Number) byte = is_digit byte
begins (A Comma) byte = byte == 44
begins (A Dot) byte = byte == 46
begins (A Open) byte = byte == 40
begins (A Close) byte = byte == 41

-- whether the byte makes a piece of this kind longer; a line feed ends a comment
abbrev pub lengthens : PieceKind → ℕ → Bool
lengthens Separator byte = false
lengthens Comment byte = not (byte == 10)
lengthens (A Name) byte = is_capital byte || is_digit byte || byte == 45
lengthens (A Word) byte = is_small byte
lengthens (A Number) byte = is_digit byte
lengthens (A Comma) byte = false
lengthens (A Dot) byte = false
lengthens (A Open) byte = false
lengthens (A Close) byte = false

-- what follows makes a piece of this kind no longer
abbrev pub Stops : PieceKind → List ℕ → Type 0
Stops kind [] = Unit {0}
Stops kind (byte ∷ bytes) = lengthens kind byte ≡ false

-- the bytes are one whole run of the kind, before the rest of the text
pub record IsRun (kind : PieceKind) (bytes rest : List ℕ) : Type 0 where
  pub first : ℕ
  pub more : List ℕ
  pub bytes_are : bytes ≡ first ∷ more
  pub begun : begins kind first ≡ true
  pub longer : AllPass (lengthens kind) more
  pub whole : Stops kind rest

-- 1 to 7 digits, with no leading zero but for the single digit 0
abbrev pub is_number : List ℕ → Bool
is_number [] = false
is_number (digit ∷ digits) = nat_le (length digits) 6 && (not (digit == 48) || length digits == 0)

-- whether a whole run of the kind is a piece: a name has 16 characters at most, and digits are a number
abbrev pub is_piece : PieceKind → List ℕ → Bool
is_piece Separator bytes = true
is_piece Comment bytes = true
is_piece (A Name) bytes = nat_le (length bytes) 16
is_piece (A Word) bytes = true
is_piece (A Number) bytes = is_number bytes
is_piece (A Comma) bytes = true
is_piece (A Dot) bytes = true
is_piece (A Open) bytes = true
is_piece (A Close) bytes = true

-- the codes of lexical faults: of a byte that begins no piece, a name of more than 16 characters, and digits that are no number
abbrev pub bad_character_code : ℕ
bad_character_code = 1

abbrev pub long_name_code : ℕ
long_name_code = 2

abbrev pub bad_number_code : ℕ
bad_number_code = 3

-- The pieces, one after another, are the text up to its end, or up to the first byte where no piece
-- begins: there the code of the fault is given.
pub data IsCutting : List Piece → List ℕ → Option ℕ → Type 0 where
  text_ends : IsCutting [] [] None
  bad_character : (byte : ℕ) (rest : List ℕ) → ((kind : PieceKind) → begins kind byte ≡ false) → IsCutting [] (byte ∷ rest) (Some bad_character_code)
  long_name : (run rest : List ℕ) → IsRun (A Name) run rest → is_piece (A Name) run ≡ false → IsCutting [] (run ++ rest) (Some long_name_code)
  bad_number : (run rest : List ℕ) → IsRun (A Number) run rest → is_piece (A Number) run ≡ false → IsCutting [] (run ++ rest) (Some bad_number_code)
  a_piece : (kind : PieceKind) (run rest : List ℕ) (pieces : List Piece) (fault : Option ℕ) → IsRun kind run rest → is_piece kind run ≡ true
      → IsCutting pieces rest fault → IsCutting (record { kind = kind; bytes = run } ∷ pieces) (run ++ rest) fault
