-- How long a token is.
use Rattle.std.proofs.Common.{◌≡◌, ℕ, ◌<◌, ◌≤◌, true, List, [], ◌∷◌, length, ap, subst, arith}
use Rattle.std.specs.Prelude.{All}
use Rattle.std.proofs.lemmas.Bool.Decides.{nat_tests}
use Rattle.std.proofs.lemmas.List.Elements.{All-head}
use Rattle.ssi_lexer.specs.declared.token.TokenKind.{TokenKind}
use Rattle.ssi_lexer.specs.declared.token.TokenKind.TheVariants.{Name}
use Rattle.ssi_lexer.specs.declared.token.Token.{Token}
use Rattle.ssi_lexer.specs.declared.scan.Ahead.{Ahead}
use Rattle.ssi_lexer.specs.declared.scan.Ahead.TheVariants.{Next, End}
use Rattle.ssi_lexer.specs.Pieces.{A, is_number, is_piece}
use Rattle.ssi_lexer.specs.Lexemes.{IsLexeme}
use Rattle.ssi_lexer.specs.Readings.{IsShort}
use Rattle.ssi_lexer.specs.Scan.{lexeme_of, goes_on, Stream, AreItsCharacters}

name_short : (characters : List ℕ) → is_piece (A Name) characters ≡ true → length characters ≤ 16
name_short characters h = grind (arith, nat_tests)

number_short : (digits : List ℕ) → is_number digits ≡ true → length digits ≤ 7
number_short [] h = omega arith
number_short (digit ∷ digits) h = grind (arith, nat_tests)

some_character : (characters : List ℕ) (first : ℕ) (more : List ℕ) → characters ≡ first ∷ more → 0 < length characters
some_character characters first more e = let n = ap length e in omega arith

token_short : (token : Token) (characters : List ℕ) → token.len ≡ length characters → IsLexeme (lexeme_of token characters) → IsShort token
token_short token characters e h = record {
  some = let n = some_character characters h.run.first h.run.more h.run.bytes_are in omega arith;
  name = λ k. let n = name_short characters (subst (λ (kind : TokenKind). is_piece (A kind) characters ≡ true) k h.piece) in omega arith;
  number = λ k. let n = number_short characters (subst (λ (kind : TokenKind). is_piece (A kind) characters ≡ true) k h.piece) in omega arith;
}

pub ahead_short : (ahead : Ahead) (characters : List ℕ) (more : Stream) (token : Token) → ahead ≡ Next token → AreItsCharacters ahead characters
    → All IsLexeme (goes_on ahead characters more).0 → IsShort token
ahead_short (Next t) characters more token e c h =
    let same : t ≡ token = cc in
    subst IsShort same (token_short t characters c (All-head IsLexeme (lexeme_of t characters) more.0 h))
ahead_short (End end) characters more token e c h = absurd cc
