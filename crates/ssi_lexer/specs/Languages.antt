-- What rules of a grammar have in common: repetitions, lists, options. A language says which tokens spell which value.
use Rattle.std.specs.Prelude.{Bool, List, [], ◌∷◌, ◌++◌, Option, Some, None}
use Rattle.ssi_lexer.specs.declared.token.Token.{Token}
use Rattle.ssi_lexer.specs.Lexemes.{Lexeme, token_of}
use Rattle.ssi_lexer.specs.TokenTests.{Is, comma}

-- one token that passes a test
pub data One (test : Lexeme → Bool) : Token → List Lexeme → Type 0 where
  one : (t : Lexeme) → Is test t → One test (token_of t) (t ∷ [])

-- { x }
pub data Repeated (A : Type 0) (S : A → List Lexeme → Type 0) : List A → List Lexeme → Type 0 where
  none : Repeated A S [] []
  some : (x : A) (xs : List A) (u v : List Lexeme) → S x u → Repeated A S xs v → Repeated A S (x ∷ xs) (u ++ v)

-- x { mark x }
pub data ListedBy (mark : Lexeme → Bool) (A : Type 0) (S : A → List Lexeme → Type 0) : List A → List Lexeme → Type 0 where
  last : (x : A) (u : List Lexeme) → S x u → ListedBy mark A S (x ∷ []) u
  and_more : (x : A) (xs : List A) (m : Lexeme) (u v : List Lexeme) → S x u → Is mark m → ListedBy mark A S xs v → ListedBy mark A S (x ∷ xs) (u ++ (m ∷ v))

-- x { , x }
abbrev pub Listed : (A : Type 0) → (A → List Lexeme → Type 0) → List A → List Lexeme → Type 0
Listed A S = ListedBy comma A S

-- x mark x { mark x }
pub data SeveralBy (mark : Lexeme → Bool) (A : Type 0) (S : A → List Lexeme → Type 0) : List A → List Lexeme → Type 0 where
  several : (x : A) (xs : List A) (m : Lexeme) (u v : List Lexeme) → S x u → Is mark m → ListedBy mark A S xs v → SeveralBy mark A S (x ∷ xs) (u ++ (m ∷ v))

-- [ x ]
pub data Optional (A : Type 0) (S : A → List Lexeme → Type 0) : Option A → List Lexeme → Type 0 where
  absent : Optional A S None []
  present : (x : A) (u : List Lexeme) → S x u → Optional A S (Some x) u
