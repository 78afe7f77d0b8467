-- Tests of one token, of which the rules of a grammar are made.
use Rattle.std.specs.Prelude.{◌≡◌, ℕ, Bool, true, false, ◌&&◌, ◌==◌, nat_lt, decimal, List, [], ◌∷◌}
use Rattle.std.specs.List.{list_any}
use Rattle.std.specs.Str.{bytes_eq}
use Rattle.ssi_lexer.specs.declared.token.TokenKind.{TokenKind}
use Rattle.ssi_lexer.specs.declared.token.TokenKind.TheVariants as k
use Rattle.ssi_lexer.specs.declared.wanted.Wanted.{Wanted}
use Rattle.ssi_lexer.specs.declared.wanted.Wanted.TheVariants as w
use Rattle.ssi_lexer.specs.Lexemes.{Lexeme}

-- the token passes the test
abbrev pub Is : (Lexeme → Bool) → Lexeme → Type 0
Is test lexeme = test lexeme ≡ true

abbrev pub is_same_kind : TokenKind → TokenKind → Bool
is_same_kind k.Name k.Name = true
is_same_kind k.Word k.Word = true
is_same_kind k.Number k.Number = true
is_same_kind k.Comma k.Comma = true
is_same_kind k.Dot k.Dot = true
is_same_kind k.Open k.Open = true
is_same_kind k.Close k.Close = true
is_same_kind _ _ = false

-- a token of the kind
abbrev pub of_kind : TokenKind → Lexeme → Bool
of_kind kind lexeme = is_same_kind lexeme.kind kind

abbrev pub comma : Lexeme → Bool
comma = of_kind k.Comma

abbrev pub dot : Lexeme → Bool
dot = of_kind k.Dot

-- the word with these letters
abbrev pub word : List ℕ → Lexeme → Bool
word letters lexeme = of_kind k.Word lexeme && bytes_eq lexeme.text letters

-- the name with these characters
abbrev pub name : List ℕ → Lexeme → Bool
name characters lexeme = of_kind k.Name lexeme && bytes_eq lexeme.text characters

-- at least two characters, of which the first is one of the letters
abbrev pub begins_with : List ℕ → List ℕ → Bool
begins_with letters [] = false
begins_with letters (first ∷ []) = false
begins_with letters (first ∷ second ∷ characters) = list_any (λ letter. letter == first) letters

-- the name of an identity, whose first letter tells its kind: one of these
abbrev pub identity : List ℕ → Lexeme → Bool
identity letters lexeme = of_kind k.Name lexeme && begins_with letters lexeme.text

-- the number of seven digits at most that is printed so
abbrev pub number : ℕ → Lexeme → Bool
number n lexeme = of_kind k.Number lexeme && nat_lt n 10000000 && bytes_eq lexeme.text (decimal n)

-- what a token is wanted to be, as a test
abbrev pub test_of : Wanted → Lexeme → Bool
test_of (w.Word letters) = word letters.now
test_of (w.Name characters) = name characters.now
test_of (w.Identity letters) = identity letters.now
test_of (w.Kind kind) = of_kind kind

-- whether a token comes next that passes the test
abbrev pub sees : (Lexeme → Bool) → List Lexeme → Bool
sees test [] = false
sees test (lexeme ∷ lexemes) = test lexeme
