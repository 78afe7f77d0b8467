-- What is owed by a reader of a language, as a function of tokens: what it answers was spelled, what is spelled is
-- read, and where it stops the tokens before begin a spelling. Each way to make a reader of others keeps this.
use Rattle.std.specs.Prelude.{◌≡◌, ℕ, suc, ◌<◌, ◌≤◌, Bool, false, List, [], ◌∷◌, ◌++◌, length, Option, Some, None, Ok, Err}
use Rattle.ssi_lexer.specs.declared.wanted.Stop.{Stop}
use Rattle.ssi_lexer.specs.declared.wanted.Stop.TheVariants as s
use Rattle.ssi_lexer.specs.Lexemes.{Lexeme}
use Rattle.ssi_lexer.specs.TokenTests.{Is, sees}
use Rattle.ssi_lexer.specs.Parsers.{Outcome, Parser}

-- the first token, if there is one
abbrev pub first_lexeme : List Lexeme → Option Lexeme
first_lexeme [] = None
first_lexeme (t ∷ ts) = Some t

-- both begin with the same token, or neither with any
abbrev pub BeginAlike : List Lexeme → List Lexeme → Type 0
BeginAlike ts others = first_lexeme ts ≡ first_lexeme others

-- the tokens begin with one that passes the test
pub record StartsWith (test : Lexeme → Bool) (ts : List Lexeme) : Type 0 where
  pub first : Lexeme
  pub others : List Lexeme
  pub parts : ts ≡ first ∷ others
  pub passes : Is test first

-- no token comes next that passes the test
abbrev pub Lacks : (Lexeme → Bool) → List Lexeme → Type 0
Lacks test ts = sees test ts ≡ false

abbrev pub Always : List Lexeme → Type 0
Always ts = Unit {0}

-- A value was read, and E holds of what follows. Whatever follows otherwise with the same first token, the reader does the same.
pub record Took (A : Type 0) (p : Parser A) (S : A → List Lexeme → Type 0) (E : List Lexeme → Type 0) (ts : List Lexeme) (x : A) (rest : List Lexeme) : Type 0 where
  pub used : List Lexeme
  pub parts : ts ≡ used ++ rest
  pub spells : S x used
  pub follows : E rest
  pub again : (other : List Lexeme) → BeginAlike other rest → p (used ++ other) ≡ Ok (x, other)

-- The reader stopped. The tokens before begin a spelling, and whatever follows otherwise with the same first token, it stops there.
pub record Halted (A : Type 0) (p : Parser A) (S : A → List Lexeme → Type 0) (ts : List Lexeme) (stop : Stop) (rest : List Lexeme) : Type 0 where
  pub front : List Lexeme
  pub parts : ts ≡ front ++ rest
  pub value : A
  pub others : List Lexeme
  pub begins : S value (front ++ others)
  pub again : (other : List Lexeme) → BeginAlike other rest → p (front ++ other) ≡ Err (stop, other)

abbrev pub Explains : (A : Type 0) → Parser A → (A → List Lexeme → Type 0) → (List Lexeme → Type 0) → List Lexeme → Outcome A → Type 0
Explains A p S E ts (Ok r) = Took A p S E ts r.0 r.1
Explains A p S E ts (Err halt) = Halted A p S ts halt.0 halt.1

-- E holds of what comes after what was read; what is spelled is read, where F holds of what comes after it.
pub record Good (A : Type 0) (p : Parser A) (S : A → List Lexeme → Type 0) (E F : List Lexeme → Type 0) : Type 0 where
  pub explains : (ts : List Lexeme) → Explains A p S E ts (p ts)
  pub complete : (x : A) (used rest : List Lexeme) → S x used → F rest → p (used ++ rest) ≡ Ok (x, rest)
  -- some word of the language
  pub sample : A
  pub text : List Lexeme
  pub sample_is : S sample text

-- the tokens that are left, by what a reader answers
abbrev pub tokens_left : {A : Type 0} → Outcome A → List Lexeme
tokens_left (Ok r) = r.1
tokens_left (Err halt) = halt.1

-- where a reader stops, one that takes a level more stops too, or it goes past a level that was too deep
abbrev pub GoesPast : {A : Type 0} → Stop → List Lexeme → Outcome A → Type 0
GoesPast s.Syntax rest deeper = deeper ≡ Err (s.Syntax, rest)
GoesPast s.TooDeep rest deeper = length (tokens_left deeper) < length rest
GoesPast s.Memory rest deeper = ⊥

-- what a reader answers, and one that takes a level more
abbrev pub Extends : {A : Type 0} → Outcome A → Outcome A → Type 0
Extends (Ok r) deeper = deeper ≡ Ok r
Extends (Err halt) deeper = GoesPast halt.0 halt.1 deeper

-- The second reader takes a level more than the first: it does the same, but for levels that were too deep. A reader of a
-- language without levels takes no more, and never stops at one: it is both.
pub record Deepens (A : Type 0) (p q : Parser A) : Type 0 where
  pub extends : (ts : List Lexeme) → Extends (p ts) (q ts)
  pub no_longer : (ts : List Lexeme) → length (tokens_left (q ts)) ≤ length ts

-- readers of a language by its depth
pub record Deep (A : Type 0) (p : ℕ → Parser A) (S : ℕ → A → List Lexeme → Type 0) (E F : List Lexeme → Type 0) : Type 0 where
  pub good : (depth : ℕ) → Good A (p depth) (S depth) E F
  pub deepens : (depth : ℕ) → Deepens A (p depth) (p (suc depth))
