-- What a reader computes, as a function of the tokens that are left. Proofs go by it; no clause of a reader that is
-- offered to the layers above cites it, since the grammar says what is read.
use Rattle.std.specs.Prelude.{◌≡◌, ℕ, zero, suc, Bool, if◌then◌else◌, List, [], ◌∷◌, ◌++◌, length, Option, Some, None, Result, Ok, Err, Vec}
use Rattle.std.specs.declared.alloc.Global.{Global}
use Rattle.ssi_lexer.specs.declared.token.Token.{Token}
use Rattle.ssi_lexer.specs.declared.wanted.Stop.{Stop}
use Rattle.ssi_lexer.specs.declared.wanted.Stop.TheVariants as s
use Rattle.ssi_lexer.specs.Lexemes.{Lexeme, token_of, value_of_digits}
use Rattle.ssi_lexer.specs.TokenTests.{sees, comma, number}

-- a value and the tokens after it, or why the reader stops and before which tokens
abbrev pub Outcome : Type 0 → Type 0
Outcome A = Result (A × List Lexeme) (Stop × List Lexeme)

abbrev pub Parser : Type 0 → Type 0
Parser A = List Lexeme → Outcome A

abbrev pub and_then : {A B : Type 0} → Outcome A → (A → Parser B) → Outcome B
and_then (Err halt) f = Err halt
and_then (Ok r) f = f r.0 r.1

abbrev pub pure : {A : Type 0} → A → Parser A
pure a = λ ts. Ok (a, ts)

infixl 10 ◌>>=◌
abbrev pub ◌>>=◌ : {A B : Type 0} → Parser A → (A → Parser B) → Parser B
p >>= f = λ ts. and_then (p ts) f

-- one after the other
infixr 11 ◌&◌
abbrev pub ◌&◌ : {A B : Type 0} → Parser A → Parser B → Parser (A × B)
p & q = do
  a ← p
  b ← q
  pure (a, b)

-- a function of what was read
abbrev pub mapped : {A B : Type 0} → (A → B) → Parser A → Parser B
mapped f p = do
  a ← p
  pure (f a)

-- a token that passes the test
unfoldable pub tok : (Lexeme → Bool) → Parser Token
tok test [] = Err (s.Syntax, [])
tok test (t ∷ ts) = if test t then Ok (token_of t, ts) else Err (s.Syntax, t ∷ ts)

-- what the first token has, if there is one and it has it
abbrev pub at_first : {A : Type 0} → (Lexeme → Option A) → List Lexeme → Option A
at_first f [] = None
at_first f (t ∷ ts) = f t

-- the value in front of the other tokens; where there is none, a stop before all of them
abbrev pub or_stop : {A : Type 0} → List Lexeme → List Lexeme → Option A → Outcome A
or_stop all ts None = Err (s.Syntax, all)
or_stop all ts (Some x) = Ok (x, ts)

-- a token that has a value
unfoldable pub valued : {A : Type 0} → (Lexeme → Option A) → Parser A
valued f [] = Err (s.Syntax, [])
valued f (t ∷ ts) = or_stop (t ∷ ts) ts (f t)

-- the number that a token is, if it is one
abbrev pub number_at : Lexeme → Option ℕ
number_at lexeme = if number (value_of_digits lexeme.text) lexeme then Some (value_of_digits lexeme.text) else None

-- the one where such a token comes next, and else the other
unfoldable pub either : {A : Type 0} → (Lexeme → Bool) → Parser A → Parser A → Parser A
either test p q ts = if sees test ts then p ts else q ts

-- if such a token comes next
unfoldable pub maybe : {A : Type 0} → (Lexeme → Bool) → Parser A → Parser (Option A)
maybe test p ts = if sees test ts then mapped Some p ts else Ok (None, ts)

-- as long as such a token comes next, in so many turns at most
unfoldable pub many : {A : Type 0} → (Lexeme → Bool) → Parser A → ℕ → List A → Parser (List A)
many test p zero found ts = Ok (found, ts)
many test p (suc n) found ts = if sees test ts then and_then (p ts) (λ a. many test p n (found ++ a ∷ [])) else Ok (found, ts)

-- Each turn takes a token at least, so the count of tokens is enough turns.
unfoldable pub turns : {A : Type 0} → (Lexeme → Bool) → Parser A → List A → Parser (List A)
turns test p found ts = many test p (length ts) found ts

-- past a mark
abbrev pub behind : {A : Type 0} → (Lexeme → Bool) → Parser A → Parser A
behind test p = mapped (λ x. x.1) (tok test & p)

-- one or more, with a mark between
unfoldable pub separated_by : {A : Type 0} → (Lexeme → Bool) → Parser A → Parser (List A)
separated_by mark p ts = and_then (p ts) (λ a. turns mark (behind mark p) (a ∷ []))

-- two or more, with a mark between
unfoldable pub several_by : {A : Type 0} → (Lexeme → Bool) → Parser A → Parser (List A)
several_by mark p ts = and_then (p ts) (λ a. λ mid. and_then (behind mark p mid) (λ b. turns mark (behind mark p) (a ∷ b ∷ [])))

-- one or more, with a comma between
abbrev pub separated : {A : Type 0} → Parser A → Parser (List A)
separated p = separated_by comma p

-- a level too deep, whatever comes
unfoldable pub too_deep : {A : Type 0} → Parser A
too_deep ts = Err (s.TooDeep, ts)

-- what a function that reads so ensures; want of memory says nothing
abbrev pub Reads : {A : Type 0} → Outcome A → Result A Stop → List Lexeme → Type 0
Reads outcome (Ok a) new = outcome ≡ Ok (a, new)
Reads outcome (Err s.Syntax) new = outcome ≡ Err (s.Syntax, new)
Reads outcome (Err s.TooDeep) new = outcome ≡ Err (s.TooDeep, new)
Reads outcome (Err s.Memory) new = Unit {0}

-- the same of a function that reads a list
abbrev pub ReadsAll : {A : Type 0} → Outcome (List A) → Result (Vec A Global) Stop → List Lexeme → Type 0
ReadsAll outcome (Ok all) new = outcome ≡ Ok (all.items, new)
ReadsAll outcome (Err s.Syntax) new = outcome ≡ Err (s.Syntax, new)
ReadsAll outcome (Err s.TooDeep) new = outcome ≡ Err (s.TooDeep, new)
ReadsAll outcome (Err s.Memory) new = Unit {0}
