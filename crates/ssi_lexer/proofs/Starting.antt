-- How the tokens of a language begin, and which tests such a token doesn't pass.
use Rattle.std.proofs.Common.{◌≡◌, ℕ, Bool, true, false, ◌&&◌, List, [], ◌∷◌, ◌++◌, refl, ap, arith}
use Rattle.std.proofs.lemmas.Bool.Decides.{nat_tests}
use Rattle.std.specs.Str.{bytes_eq}
use Rattle.std.proofs.lemmas.Slice.Eq.{bytes_eq-Decides}
use Rattle.ssi_lexer.specs.declared.token.Token.{Token}
use Rattle.ssi_lexer.specs.declared.token.TokenKind.{TokenKind}
use Rattle.ssi_lexer.specs.declared.token.TokenKind.TheVariants as k
use Rattle.ssi_lexer.specs.Lexemes.{Lexeme, first_place}
use Rattle.ssi_lexer.specs.TokenTests.{Is, is_same_kind, of_kind, comma, dot, word, name, identity, begins_with}
use Rattle.ssi_lexer.specs.Languages.{One, one}
use Rattle.ssi_lexer.specs.Parsers.{tok}
use Rattle.ssi_lexer.specs.Laws.{StartsWith, Lacks, Always, Good}
use Rattle.ssi_lexer.proofs.Joining.{Both, both}
use Rattle.ssi_lexer.proofs.OneToken.{good_tok}
use Rattle.ssi_lexer.proofs.Choosing.{Without}

-- a token of the kind with these characters, for a sample
abbrev pub some_token : TokenKind → List ℕ → Lexeme
some_token kind text = record { kind = kind; text = text; start = 0; number = 0; place = first_place }

pub some_word : (letters : List ℕ) → Is (word letters) (some_token k.Word letters)
some_word letters = (bytes_eq-Decides letters letters).1 refl

pub some_name : (characters : List ℕ) → Is (name characters) (some_token k.Name characters)
some_name characters = (bytes_eq-Decides characters characters).1 refl

-- a letter and a digit are the name of an identity of the letter's kind
pub some_identity : (letter : ℕ) → Is (identity (letter ∷ [])) (some_token k.Name (letter ∷ 49 ∷ []))
some_identity letter = grind (arith, nat_tests)

-- ---- what is both is each

pub and_left : (a b : Bool) → a && b ≡ true → a ≡ true
and_left true b e = refl
and_left false b e = cc

pub and_right : (a b : Bool) → a && b ≡ true → b ≡ true
and_right true b e = e
and_right false b e = absurd cc

-- a token is of one kind
pub one_kind : (kind a b : TokenKind) → is_same_kind a b ≡ false → is_same_kind kind a ≡ true → is_same_kind kind b ≡ false
one_kind k.Name k.Name b d e = d
one_kind k.Word k.Word b d e = d
one_kind k.Number k.Number b d e = d
one_kind k.Comma k.Comma b d e = d
one_kind k.Dot k.Dot b d e = d
one_kind k.Open k.Open b d e = d
one_kind k.Close k.Close b d e = d
one_kind _ _ b d e = absurd cc

pub word_kind : (letters : List ℕ) (t : Lexeme) → Is (word letters) t → is_same_kind t.kind k.Word ≡ true
word_kind letters t e = and_left (of_kind k.Word t) (bytes_eq t.text letters) e

pub word_text : (letters : List ℕ) (t : Lexeme) → Is (word letters) t → t.text ≡ letters
word_text letters t e = (bytes_eq-Decides t.text letters).0 (and_right (of_kind k.Word t) (bytes_eq t.text letters) e)

pub word_not_comma : (letters : List ℕ) (t : Lexeme) → Is (word letters) t → comma t ≡ false
word_not_comma letters t e = one_kind t.kind k.Word k.Comma refl (word_kind letters t e)

pub word_not_identity : (kinds letters : List ℕ) (t : Lexeme) → Is (word letters) t → identity kinds t ≡ false
word_not_identity kinds letters t e = rw (one_kind t.kind k.Word k.Name refl (word_kind letters t e)) refl

pub identity_not_word : (kinds letters : List ℕ) (t : Lexeme) → Is (identity kinds) t → word letters t ≡ false
identity_not_word kinds letters t e = rw (one_kind t.kind k.Name k.Word refl (and_left (of_kind k.Name t) (begins_with kinds t.text) e)) refl

pub dot_not_comma : (t : Lexeme) → Is dot t → comma t ≡ false
dot_not_comma t e = one_kind t.kind k.Dot k.Comma refl e

-- a mark or a number is neither a word nor a name
pub kind_not_word : (kind : TokenKind) (letters : List ℕ) (t : Lexeme) → is_same_kind kind k.Word ≡ false → Is (of_kind kind) t → word letters t ≡ false
kind_not_word kind letters t d e = rw (one_kind t.kind kind k.Word d e) refl

pub kind_not_identity : (kind : TokenKind) (kinds : List ℕ) (t : Lexeme) → is_same_kind kind k.Name ≡ false → Is (of_kind kind) t → identity kinds t ≡ false
kind_not_identity kind kinds t d e = rw (one_kind t.kind kind k.Name d e) refl

pub dot_not_word : (letters : List ℕ) (t : Lexeme) → Is dot t → word letters t ≡ false
dot_not_word letters t e = kind_not_word k.Dot letters t refl e

pub dot_not_identity : (kinds : List ℕ) (t : Lexeme) → Is dot t → identity kinds t ≡ false
dot_not_identity kinds t e = kind_not_identity k.Dot kinds t refl e

-- the name of an identity is of no other kind
pub identity_not_kind : (kind : TokenKind) (kinds : List ℕ) (t : Lexeme) → is_same_kind k.Name kind ≡ false → Is (identity kinds) t → of_kind kind t ≡ false
identity_not_kind kind kinds t d e = one_kind t.kind k.Name kind d (and_left (of_kind k.Name t) (begins_with kinds t.text) e)

pub word_not_number : (letters : List ℕ) (t : Lexeme) → Is (word letters) t → of_kind k.Number t ≡ false
word_not_number letters t e = one_kind t.kind k.Word k.Number refl (word_kind letters t e)

-- two words with other letters
pub other_word : (letters others : List ℕ) (t : Lexeme) → bytes_eq letters others ≡ false → Is (word letters) t → word others t ≡ false
other_word letters others t d e = rw (word_kind letters t e, word_text letters t e) d

-- ---- beginnings

pub starts_one : (test : Lexeme → Bool) (x : Token) (u : List Lexeme) → One test x u → StartsWith test u
starts_one test x u (one t e) = record { first = t; others = []; parts = refl; passes = e }

-- the first of two begins with such a token
pub starts_both : (A B : Type 0) (test : Lexeme → Bool) (S : A → List Lexeme → Type 0) (T : B → List Lexeme → Type 0) → ((x : A) (u : List Lexeme) → S x u → StartsWith test u)
    → (z : A × B) (u : List Lexeme) → Both A B S T z u → StartsWith test u
starts_both A B test S T starts z u (both x y v w s t) =
    let h = starts x v s in
    record { first = h.first; others = h.others ++ w; parts = ap (λ (l : List Lexeme). l ++ w) h.parts; passes = h.passes }

-- what such tokens lack, whatever follows
pub lacks_after : (test other : Lexeme → Bool) (u rest : List Lexeme) → StartsWith test u → ((t : Lexeme) → Is test t → other t ≡ false) → Lacks other (u ++ rest)
lacks_after test other u rest h not = rw h.parts (not h.first h.passes)

pub without_after : (test other : Lexeme → Bool) (u rest : List Lexeme) → StartsWith test u → ((t : Lexeme) → Is test t → other t ≡ false) → Without other Always (u ++ rest)
without_after test other u rest h not = record { lacks = lacks_after test other u rest h not; too = tt }

-- ---- the dot that ends an entry

pub good_dot : Good Token (tok dot) (One dot) Always Always
good_dot = good_tok dot (some_token k.Dot []) refl
