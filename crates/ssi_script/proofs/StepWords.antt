-- The tokens of a step, as their readers know them: words of a list, numbers within bounds, bytes.
use Rattle.std.proofs.Common.{◌≡◌, ℕ, ◌≤◌, ◌&&◌, Bool, true, false, cond, List, [], ◌∷◌, Option, Some, None, refl, sym, subst, ◌∙◌, arith}
use Rattle.std.specs.Prelude.{decimal, nat_le, nat_lt, if◌then◌else◌}
use Rattle.std.specs.Str.{bytes_eq}
use Rattle.std.proofs.lemmas.Bool.Decides.{nat_tests}
use Rattle.std.proofs.lemmas.Slice.Eq.{bytes_eq-Decides}
use Rattle.ssi_lexer.specs.declared.token.TokenKind.TheVariants as k
use Rattle.ssi_lexer.specs.Lexemes.{Lexeme, token_of}
use Rattle.ssi_lexer.specs.TokenTests.{Is, of_kind, word, number}
use Rattle.ssi_lexer.specs.Parsers.{number_at, valued}
use Rattle.ssi_lexer.specs.Laws.{Always, Good}
use Rattle.ssi_lexer.proofs.OneToken.{Valued, a_value, good_valued}
use Rattle.ssi_lexer.proofs.Numbers.{number_is, is_number_at}
use Rattle.ssi_lexer.proofs.Joining.{good_mapped}
use Rattle.ssi_lexer.proofs.Starting.{and_left, and_right, some_token, word_kind, word_text}
use Rattle.ssi_script.specs.declared.step.EventWord.{EventWord}
use Rattle.ssi_script.specs.declared.step.EventWord.TheVariants as event
use Rattle.ssi_script.specs.declared.step.ModuleWord.{ModuleWord}
use Rattle.ssi_script.specs.declared.step.ModuleWord.TheVariants as becomes
use Rattle.ssi_script.specs.declared.words.Number.{Number}
use Rattle.ssi_script.specs.Steps.{IsByte, letters_of_event, letters_of_module}
use Rattle.ssi_script.specs.StepReading.{byte, event_word_at, event_words, largest, module_word_at, module_words, number_told, told_by, with_token}

-- ---- the first of some words

module _ (A : Type 0) (letters : A → List ℕ) where
  told_first : (a b : A) (others : List A) (t : Lexeme) (is : Bool) → word (letters a) t ≡ is → (told_by letters others t ≡ Some b → Is (word (letters b)) t)
      → (if is then Some a else told_by letters others t) ≡ Some b → Is (word (letters b)) t
  told_first a b others t true is later e = let same : a ≡ b = cc in subst (λ (c : A). word (letters c) t ≡ true) same is
  told_first a b others t false is later e = later e

  pub told_is : (all : List A) (t : Lexeme) (a : A) → told_by letters all t ≡ Some a → Is (word (letters a)) t
  told_is [] t a e = absurd cc
  told_is (b ∷ others) t a e = told_first b a others t (word (letters b) t) refl (told_is others t a) e

  -- the first of these that has these letters
  abbrev pub among : List A → List ℕ → Option A
  among [] cs = None
  among (a ∷ others) cs = if bytes_eq cs (letters a) then Some a else among others cs

  pub told_among : (all : List A) (t : Lexeme) (cs : List ℕ) → Is (word cs) t → told_by letters all t ≡ among all cs
  told_among [] t cs is = refl
  told_among (a ∷ others) t cs is =
      let first : word (letters a) t ≡ bytes_eq cs (letters a) = rw (word_kind cs t is, word_text cs t is) refl in
      rw (first, told_among others t cs is) refl

  -- a token that is one of these words is none with letters that no word has
  pub no_other : (all : List A) (t : Lexeme) (a : A) (cs : List ℕ) → told_by letters all t ≡ Some a → among all cs ≡ None → word cs t ≡ false
  no_other all t a cs told none = by_test (word cs t) refl
    where
      by_test : (b : Bool) → word cs t ≡ b → b ≡ false
      by_test true is = let found : Some a ≡ None = sym told ∙ told_among all t cs is ∙ none in absurd cc
      by_test false is = refl

-- ---- the words of events and of modules

pub event_told : (what : EventWord) (t : Lexeme) → Is (word (letters_of_event what)) t → event_word_at t ≡ Some what
event_told what t is = told_among EventWord letters_of_event event_words t (letters_of_event what) is ∙ each what
  where
    each : (what : EventWord) → among EventWord letters_of_event event_words (letters_of_event what) ≡ Some what
    each event.Occupy = refl
    each event.Clear = refl
    each event.Fail = refl
    each event.Mend = refl
    each event.Jam = refl
    each event.Unjam = refl

pub module_told : (what : ModuleWord) (t : Lexeme) → Is (word (letters_of_module what)) t → module_word_at t ≡ Some what
module_told what t is = told_among ModuleWord letters_of_module module_words t (letters_of_module what) is ∙ each what
  where
    each : (what : ModuleWord) → among ModuleWord letters_of_module module_words (letters_of_module what) ≡ Some what
    each becomes.Dead = refl
    each becomes.Live = refl
    each becomes.Lose = refl
    each becomes.Drop = refl

pub event_no_module : (what : EventWord) (t : Lexeme) → Is (word (letters_of_event what)) t → module_word_at t ≡ None
event_no_module what t is = told_among ModuleWord letters_of_module module_words t (letters_of_event what) is ∙ each what
  where
    each : (what : EventWord) → among ModuleWord letters_of_module module_words (letters_of_event what) ≡ None
    each event.Occupy = refl
    each event.Clear = refl
    each event.Fail = refl
    each event.Mend = refl
    each event.Jam = refl
    each event.Unjam = refl

-- ---- numbers within bounds

-- a token that is the number of this value, within bounds
pub record IsNumber (least most : ℕ) (t : Lexeme) (n : Number) : Type 0 where
  pub low : least ≤ n.value
  pub high : n.value ≤ most
  pub token_is : n.token ≡ token_of t
  pub is : Is (number n.value) t

abbrev pub told_number : ℕ → Lexeme → Number
told_number n t = record { value = n; token = token_of t }

number_by : (least most : ℕ) (t : Lexeme) (m : ℕ) (n : Number) (b : Bool) → nat_le least m && nat_le m most ≡ b → number_at t ≡ Some m → cond b (Some (told_number m t)) None ≡ Some n → IsNumber least most t n
number_by least most t m n true within at e =
    let same : told_number m t ≡ n = cc in
    let is : IsNumber least most t (told_number m t) = record {
      low = grind (arith, nat_tests, within);
      high = grind (arith, nat_tests, within);
      token_is = refl;
      is = number_is t m at;
    }
    in
    subst (IsNumber least most t) same is
number_by least most t m n false within at e = absurd cc

number_of : (least most : ℕ) (t : Lexeme) (n : Number) (o : Option ℕ) → number_at t ≡ o → with_token least most t o ≡ Some n → IsNumber least most t n
number_of least most t n None at e = absurd cc
number_of least most t n (Some m) at e = number_by least most t m n (nat_le least m && nat_le m most) refl at e

pub number_told_is : (least most : ℕ) (t : Lexeme) (n : Number) → number_told least most t ≡ Some n → IsNumber least most t n
number_told_is least most t n e = number_of least most t n (number_at t) refl e

pub told_within : (least most : ℕ) (t : Lexeme) (n : ℕ) → least ≤ n → n ≤ most → Is (number n) t → number_told least most t ≡ Some (told_number n t)
told_within least most t n low high is =
    let within : nat_le least n && nat_le n most ≡ true = grind (arith, nat_tests) in
    rw (is_number_at t n is, within) refl

-- no token is a larger number
pub number_small : (t : Lexeme) (n : ℕ) → Is (number n) t → n ≤ largest
number_small t n is =
    let small : nat_lt n 10000000 ≡ true = and_right (of_kind k.Number t) (nat_lt n 10000000) (and_left (of_kind k.Number t && nat_lt n 10000000) (bytes_eq t.text (decimal n)) is) in
    grind (arith, nat_tests)

-- a token that is the number, for a sample
abbrev pub some_number : ℕ → Lexeme
some_number n = some_token k.Number (decimal n)

pub number_zero : Is (number 0) (some_number 0)
number_zero = (bytes_eq-Decides (decimal 0) (decimal 0)).1 refl

pub number_one : Is (number 1) (some_number 1)
number_one = (bytes_eq-Decides (decimal 1) (decimal 1)).1 refl

pub good_number : (least most n : ℕ) → least ≤ n → n ≤ most → Is (number n) (some_number n) → Good Number (valued (number_told least most)) (Valued Number (number_told least most)) Always Always
good_number least most n low high is = good_valued Number (number_told least most) (some_number n) (told_number n (some_number n)) (told_within least most (some_number n) n low high is)

-- ---- a byte

pub data AByte : ℕ → List Lexeme → Type 0 where
  a_byte : (t : Lexeme) (n : ℕ) → IsByte n t → AByte n (t ∷ [])

to_byte : (x : Number) (u : List Lexeme) → Valued Number (number_told 0 255) x u → AByte x.value u
to_byte x u (a_value t n e) =
    let is = number_told_is 0 255 t n e in
    a_byte t n.value (record { fits = omega (arith, is.high); is = is.is })

from_byte : (y : ℕ) (u : List Lexeme) → AByte y u → (x : Number) × (y ≡ x.value) × Valued Number (number_told 0 255) x u
from_byte y u (a_byte t n is) = (told_number n t, refl, a_value t (told_number n t) (told_within 0 255 t n (omega arith) (omega (arith, is.fits)) is.is))

pub good_byte : Good ℕ byte AByte Always Always
unfolding byte
good_byte = good_mapped Number ℕ (λ n. n.value) (valued (number_told 0 255)) (Valued Number (number_told 0 255)) AByte Always Always to_byte from_byte (good_number 0 255 0 (omega arith) (omega arith) number_zero)
