-- The header of a file: the reader reads its rule of the grammar.
use Rattle.std.proofs.Common.{◌≡◌, ℕ, codes, List, [], ◌∷◌, refl}
use Rattle.ssi_lexer.specs.declared.token.Token.{Token}
use Rattle.ssi_lexer.specs.declared.token.TokenKind.TheVariants as k
use Rattle.ssi_lexer.specs.Lexemes.{Lexeme, token_of}
use Rattle.ssi_lexer.specs.TokenTests.{Is, name}
use Rattle.ssi_lexer.specs.Languages.{One, one}
use Rattle.ssi_lexer.specs.Parsers.{◌&◌, tok}
use Rattle.ssi_lexer.specs.Laws.{Always, Good}
use Rattle.ssi_lexer.proofs.OneToken.{good_tok}
use Rattle.ssi_lexer.proofs.Joining.{Both, both, good_both, good_mapped}
use Rattle.ssi_lexer.proofs.Starting.{some_token, some_word, some_name}
use Rattle.ssi_terms.specs.Tests.{ends_file}
use Rattle.ssi_terms.specs.Read as spec

abbrev HeaderText : List ℕ → Token × Token → List Lexeme → Type 0
HeaderText file = Both Token Token (One ends_file) (One (name file))

-- one header
pub data AHeader (file : List ℕ) : Unit {0} → List Lexeme → Type 0 where
  the_header : (f n : Lexeme) → Is ends_file f → Is (name file) n → AHeader file tt (f ∷ n ∷ [])

to_header : (file : List ℕ) (x : Token × Token) (u : List Lexeme) → HeaderText file x u → AHeader file tt u
to_header file x u (both a b v w (one f e) (one n h)) = the_header f n e h

from_header : (file : List ℕ) (y : Unit {0}) (u : List Lexeme) → AHeader file y u → (x : Token × Token) × (y ≡ tt) × HeaderText file x u
from_header file y u (the_header f n e h) = ((token_of f, token_of n), refl, both (token_of f) (token_of n) (f ∷ []) (n ∷ []) (one f e) (one n h))

pub good_header : (file : List ℕ) → Good (Unit {0}) (spec.header file) (AHeader file) Always Always
unfolding spec.header
good_header file =
    good_mapped (Token × Token) (Unit {0}) (λ _. tt) (tok ends_file & tok (name file)) (HeaderText file) (AHeader file) Always Always (to_header file) (from_header file)
    (good_both Token Token (tok ends_file) (tok (name file)) (One ends_file) (One (name file)) Always Always Always Always (λ y v rest t k. tt)
    (good_tok ends_file (some_token k.Word (codes "file")) (some_word (codes "file"))) (good_tok (name file) (some_token k.Name file) (some_name file)))
