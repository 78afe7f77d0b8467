-- A number of the text: what its digits stand for is printed as they stand.
use Rattle.std.proofs.Common.{◌≡◌, ℕ, ◌+◌, ◌-◌, ◌*◌, ◌^◌, ◌<◌, ◌≤◌, ◌&&◌, Bool, true, false, cond, List, [], ◌∷◌, length, get_or, Some, None, refl, sym, ap, subst, ◌∙◌, arith}
use Rattle.std.specs.Prelude.{nat_lt, decimal, fold, All}
use Rattle.std.specs.Int.{IsInRange}
use Rattle.std.specs.List.{AllPass}
use Rattle.std.specs.Str.{bytes_eq}
use Rattle.std.proofs.lemmas.Bool.Decides.{nat_tests}
use Rattle.std.proofs.lemmas.Slice.Eq.{bytes_eq-Decides}
use Rattle.std.proofs.lemmas.List.Elements.{All-nil, All-cons, All-head, All-tail}
use Rattle.std.proofs.lemmas.Fmt.{digits_value-decimal, decimal-digits_value}
use Rattle.std.proofs.lemmas.Str.Parse.{IsDigitsTest, FoldsDigits, IsNumeralModel, numerals_by_fold, digits_value_short}
use Rattle.ssi_lexer.specs.declared.token.TokenKind.{TokenKind}
use Rattle.ssi_lexer.specs.declared.token.TokenKind.TheVariants.{Number}
use Rattle.ssi_lexer.specs.Pieces.{A, is_digit, is_piece, IsRun}
use Rattle.ssi_lexer.specs.declared.token.Token.{Token}
use Rattle.ssi_lexer.specs.Lexemes.{Lexeme, IsLexeme, token_of, value_of_digits}
use Rattle.ssi_lexer.specs.Readings.{first_of, first_text}
use Rattle.ssi_lexer.specs.TokenTests.{Is, is_same_kind, of_kind, number, sees}
use Rattle.ssi_lexer.specs.Parsers.{at_first, number_at}

abbrev IsDigit : ℕ → Type 0
IsDigit c = is_digit c ≡ true

digits_told : IsDigitsTest (AllPass is_digit)
digits_told = record { empty = All-nil IsDigit; parts = λ c cs all. (digit_range c (All-head IsDigit c cs all), All-tail IsDigit c cs all); more = λ c cs range all. All-cons IsDigit c cs (range_digit c range) all }
  where
    digit_range : (c : ℕ) → is_digit c ≡ true → IsInRange 48 57 c
    digit_range c e = (grind (arith, nat_tests), grind (arith, nat_tests))

    range_digit : (c : ℕ) → IsInRange 48 57 c → is_digit c ≡ true
    range_digit c range = grind (arith, nat_tests, range.0, range.1)

abbrev value_after : ℕ → List ℕ → ℕ
value_after n digits = fold (λ value digit. 10 * value + (digit - 48)) n digits

digits_folded : FoldsDigits value_after
digits_folded = record { empty = λ n. refl; more = λ n c cs range. ap (λ m. value_after m cs) (omega arith) }

own : IsNumeralModel (AllPass is_digit) value_of_digits
own = numerals_by_fold (AllPass is_digit) digits_told value_after digits_folded

-- the digits of a number: 1 to 7, with no leading zero but for the single digit 0
record AreDigits (digits : List ℕ) : Type 0 where
  each : AllPass is_digit digits
  some : 0 < length digits
  few : length digits ≤ 7
  lead : get_or digits 0 0 ≡ 48 → length digits ≡ 1

digits_by : (first : ℕ) (more : List ℕ) → is_digit first ≡ true → AllPass is_digit more → is_piece (A Number) (first ∷ more) ≡ true → AreDigits (first ∷ more)
digits_by first more one others piece = record {
  each = All-cons IsDigit first more one others;
  some = omega arith;
  few = grind (arith, nat_tests);
  lead = λ zero. grind (arith, nat_tests);
}

digits_of : (kind : TokenKind) (text : List ℕ) → is_same_kind kind Number ≡ true → IsRun (A kind) text [] → is_piece (A kind) text ≡ true → AreDigits text
digits_of Number text e run piece =
    subst AreDigits (sym run.bytes_are) (digits_by run.first run.more run.begun run.longer (subst (λ (ds : List ℕ). is_piece (A Number) ds ≡ true) run.bytes_are piece))
digits_of _ text e run piece = absurd cc

all_true : (a b c : Bool) → a ≡ true → b ≡ true → c ≡ true → (a && b && c) ≡ true
all_true a b c e f g = rw (e, f, g) refl

-- a token that is a number is the number that its digits stand for, as it is printed
printed : (t : Lexeme) → IsLexeme t → is_same_kind t.kind Number ≡ true → Is (number (value_of_digits t.text)) t
printed t formed kind =
    let d = digits_of t.kind t.text kind formed.run formed.piece in
    let small : value_of_digits t.text < 10 ^ 7 = digits_value_short own t.text 7 d.each d.few in
    let same : decimal (value_of_digits t.text) ≡ t.text = decimal-digits_value own t.text d.each d.some d.lead (omega arith) in
    all_true _ _ _ kind (grind (arith, nat_tests)) ((bytes_eq-Decides t.text (decimal (value_of_digits t.text))).1 (sym same))

-- ---- a token that is a number, and the number that it is

at_by : (t : Lexeme) (v n : ℕ) (b : Bool) → number v t ≡ b → cond b (Some v) None ≡ Some n → Is (number n) t
at_by t v n true is e = let same : v ≡ n = cc in subst (λ (m : ℕ). number m t ≡ true) same is
at_by t v n false is e = absurd cc

pub number_is : (t : Lexeme) (n : ℕ) → number_at t ≡ Some n → Is (number n) t
number_is t n e = at_by t (value_of_digits t.text) n (number (value_of_digits t.text) t) refl e

record Parts (a b c : Bool) : Type 0 where
  first : a ≡ true
  second : b ≡ true
  third : c ≡ true

parts_of : (a b c : Bool) → (a && b && c) ≡ true → Parts a b c
parts_of true true true e = record { first = refl; second = refl; third = refl }
parts_of true true false e = absurd cc
parts_of true false c e = absurd cc
parts_of false b c e = absurd cc

pub is_number_at : (t : Lexeme) (n : ℕ) → Is (number n) t → number_at t ≡ Some n
is_number_at t n is =
    let p = parts_of (is_same_kind t.kind Number) (nat_lt n 10000000) (bytes_eq t.text (decimal n)) is in
    let small : n < 10000000 = grind (arith, nat_tests, p.second) in
    let text : t.text ≡ decimal n = (bytes_eq-Decides t.text (decimal n)).0 p.third in
    let same : value_of_digits t.text ≡ n = ap value_of_digits text ∙ digits_value-decimal own n (omega arith) in
    rw (same, is) refl

-- the number that comes next is that of its digits
pub sees_number : (left : List Lexeme) (token : Token) → Some token ≡ first_of left → is_same_kind token.kind Number ≡ true → All IsLexeme left → sees (number (value_of_digits (first_text left))) left ≡ true
sees_number [] token e kind all = absurd cc
sees_number (t ∷ ts) token e kind all =
    let same : token ≡ token_of t = cc in
    let of_token : is_same_kind t.kind Number ≡ true = subst (λ (k : Token). is_same_kind k.kind Number ≡ true) same kind in
    printed t (All-head IsLexeme t ts all) of_token

-- a number is what it has, and nothing else has one
pub at_first_number : (left : List Lexeme) (n : ℕ) → sees (number n) left ≡ true → at_first number_at left ≡ Some n
at_first_number [] n e = absurd cc
at_first_number (t ∷ ts) n e = is_number_at t n e

no_number_by : (t : Lexeme) (b : Bool) → number (value_of_digits t.text) t ≡ b → of_kind Number t ≡ false → cond b (Some (value_of_digits t.text)) None ≡ None
no_number_by t true e none = absurd (grind (arith, nat_tests))
no_number_by t false e none = refl

pub at_first_none : (left : List Lexeme) → sees (of_kind Number) left ≡ false → at_first number_at left ≡ None
at_first_none [] e = refl
at_first_none (t ∷ ts) e = no_number_by t (number (value_of_digits t.text) t) refl e
