-- Tests of one token, of which the rules of the data language are made.
use Rattle.std.specs.Prelude.{ℕ, Bool, true, not, ◌||◌, ◌&&◌, codes, List, [], ◌∷◌}
use Rattle.std.specs.List.{list_any}
use Rattle.std.specs.Str.{bytes_eq}
use Rattle.ssi_lexer.specs.declared.token.Token.{Token}
use Rattle.ssi_lexer.specs.Lexemes.{Lexeme, token_of}
use Rattle.ssi_lexer.specs.declared.token.TokenKind.TheVariants.{Number, Word, Open, Close}
use Rattle.ssi_lexer.specs.TokenTests.{comma, word, identity, of_kind}
use Rattle.ssi_terms.specs.declared.tree.Spot.{Spot}

-- where a token stands in the text
abbrev pub spot_at : Token → Spot
spot_at token = record { start = token.start; len = token.len; token = token.number; place = token.place }

abbrev pub spot_of : Lexeme → Spot
spot_of lexeme = spot_at (token_of lexeme)

-- the name of an identity of each kind
abbrev pub points : Lexeme → Bool
points = identity (codes "P")

abbrev pub signal : Lexeme → Bool
signal = identity (codes "S")

abbrev pub track : Lexeme → Bool
track = identity (codes "T")

abbrev pub route : Lexeme → Bool
route = identity (codes "R")

abbrev pub subroute : Lexeme → Bool
subroute = identity (codes "U")

abbrev pub flag : Lexeme → Bool
flag = identity (codes "L")

abbrev pub request : Lexeme → Bool
request = identity (codes "Q")

-- the name of an identity that has a state: of each kind but a request
abbrev pub any_identity : Lexeme → Bool
any_identity = identity (codes "PSTRUL")

-- the words that a test and a command may have
abbrev pub rule_words : List (List ℕ)
rule_words =
    codes "cn" ∷ codes "cr" ∷ codes "cnf" ∷ codes "crf" ∷ codes "dn" ∷ codes "dr" ∷ codes "xdn" ∷ codes "xdr" ∷ codes "lp" ∷ codes "xlp" ∷ codes "c" ∷ codes "o" ∷ codes "s" ∷ codes "xs" ∷ codes "xa"
    ∷ codes "a" ∷ codes "l" ∷ codes "f" ∷ codes "h" ∷ []

-- the letters are one of those words
abbrev pub is_rule_word : List ℕ → Bool
is_rule_word letters = list_any (λ word. bytes_eq letters word) rule_words

-- one of those words
abbrev pub rule_word : Lexeme → Bool
rule_word lexeme = of_kind Word lexeme && is_rule_word lexeme.text

-- `cn` for points that lie normal, `cr` for points that lie reverse
abbrev pub lie_word : Lexeme → Bool
lie_word lexeme = word (codes "cn") lexeme || word (codes "cr") lexeme

-- any number
abbrev pub any_number : Lexeme → Bool
any_number = of_kind Number

-- `h` for a bit that is to be high, `l` for one that is to be low
abbrev pub bit_word : Lexeme → Bool
bit_word lexeme = word (codes "h") lexeme || word (codes "l") lexeme

-- the marks around a group
abbrev pub opens : Lexeme → Bool
opens = of_kind Open

abbrev pub closes : Lexeme → Bool
closes = of_kind Close

-- a token that ends a condition or a body: any but a comma
abbrev pub ends_list : Lexeme → Bool
ends_list lexeme = not (comma lexeme)

-- the word that ends a file, since it begins the next
abbrev pub ends_file : Lexeme → Bool
ends_file = word (codes "file")

-- any token
abbrev pub any_token : Lexeme → Bool
any_token lexeme = true
