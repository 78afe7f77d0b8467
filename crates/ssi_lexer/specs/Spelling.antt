-- What a reader of a language answers: that its tokens are a spelling, where no spelling goes on with them, which token
-- opens a level too deep, or where the text goes on with no token. A language says which tokens spell which value; one
-- with levels in one another has a depth, and says it for each.
use Rattle.std.specs.Prelude.{◌≡◌, ℕ, Bool, List, [], ◌∷◌, ◌++◌, Result, Ok, Err}
use Rattle.ssi_base.specs.declared.place.Place.{Place}
use Rattle.ssi_lexer.specs.declared.token.LexFault.{LexFault}
use Rattle.ssi_lexer.specs.declared.token.TextEnd.{TextEnd}
use Rattle.ssi_lexer.specs.declared.token.TextEnd.TheVariants.{Finished, Faulty}
use Rattle.ssi_lexer.specs.Lexemes.{Lexeme}
use Rattle.ssi_lexer.specs.TokenTests.{Is}

-- depths left aside: the tokens spell the value where levels may lie as deep in one another as they do
abbrev pub AtAnyDepth : (A : Type 0) → (ℕ → A → List Lexeme → Type 0) → A → List Lexeme → Type 0
AtAnyDepth A S x tokens = (depth : ℕ) × S depth x tokens

-- some value and some further tokens: these tokens and those spell it
pub record Begins (A : Type 0) (S : A → List Lexeme → Type 0) (front : List Lexeme) : Type 0 where
  pub value : A
  pub further : List Lexeme
  pub spells : S value (front ++ further)

-- some value and one further token or more: these tokens and those spell it
pub record NeedsMore (A : Type 0) (S : A → List Lexeme → Type 0) (front : List Lexeme) : Type 0 where
  pub value : A
  pub next : Lexeme
  pub further : List Lexeme
  pub spells : S value (front ++ (next ∷ further))

-- tokens that spell the value, and one more that ends it
pub record WithEnd (A : Type 0) (S : A → List Lexeme → Type 0) (ends : Lexeme → Bool) (x : A) (tokens : List Lexeme) : Type 0 where
  pub used : List Lexeme
  pub last : Lexeme
  pub parts : tokens ≡ used ++ (last ∷ [])
  pub spells : S x used
  pub ends_it : Is ends last

-- a token that ends a value comes next, or the text ends
abbrev pub IsEnded : (Lexeme → Bool) → List Lexeme → TextEnd → Type 0
IsEnded ends [] (Finished place) = Unit {0}
IsEnded ends [] (Faulty fault) = ⊥
IsEnded ends (t ∷ ts) end = Is ends t

-- exactly the tokens before the rest were taken: they spell the value, and the rest ends it
pub record Takes (A : Type 0) (S : A → List Lexeme → Type 0) (ends : Lexeme → Bool) (left : List Lexeme) (end : TextEnd) (x : A) (rest : List Lexeme) : Type 0 where
  pub used : List Lexeme
  pub parts : left ≡ used ++ rest
  pub spells : S x used
  pub ended : IsEnded ends rest end

-- exactly the tokens before the rest were taken: they spell the value, whatever comes next
pub record TakesFront (A : Type 0) (S : A → List Lexeme → Type 0) (left : List Lexeme) (x : A) (rest : List Lexeme) : Type 0 where
  pub used : List Lexeme
  pub parts : left ≡ used ++ rest
  pub spells : S x used

-- Behind these tokens no spelling goes on: at the token that comes next, or at the end of the text where more is needed.
abbrev pub FitsNothing : (A : Type 0) → (A → List Lexeme → Type 0) → (Lexeme → Bool) → List Lexeme → List Lexeme → TextEnd → Place → Type 0
FitsNothing A S ends front [] (Finished past) place = (place ≡ past) × ((x : A) → ¬ S x front)
FitsNothing A S ends front [] (Faulty fault) place = ⊥
FitsNothing A S ends front (t ∷ ts) end place = (place ≡ t.place) × ¬ Begins A (WithEnd A S ends) (front ++ (t ∷ []))

-- The first place where no spelling with its end begins with the tokens so far, depths left aside. With those before some
-- begins within the depths, and it goes on. S is the language within the depths, M the one that leaves them aside.
pub record FirstFault (A : Type 0) (S M : A → List Lexeme → Type 0) (ends : Lexeme → Bool) (left : List Lexeme) (end : TextEnd) (place : Place) : Type 0 where
  pub front : List Lexeme
  pub rest : List Lexeme
  pub parts : left ≡ front ++ rest
  pub begins : NeedsMore A (WithEnd A S ends) front
  pub fault : FitsNothing A M ends front rest end place

-- The token that opens a level too deep: a spelling begins with the tokens up to and including it, but none within the
-- depths does. With those before some begins within the depths, and it goes on.
pub record FirstTooDeep (A : Type 0) (S M : A → List Lexeme → Type 0) (ends : Lexeme → Bool) (left : List Lexeme) (place : Place) : Type 0 where
  pub front : List Lexeme
  pub opener : Lexeme
  pub rest : List Lexeme
  pub parts : left ≡ front ++ (opener ∷ rest)
  pub begins : NeedsMore A (WithEnd A S ends) front
  pub deeper : Begins A M (front ++ (opener ∷ []))
  pub too_deep : ¬ Begins A (WithEnd A S ends) (front ++ (opener ∷ []))
  pub there : place ≡ opener.place

-- All tokens that are left begin a spelling, and the text goes on with this fault.
pub record StopsInside (A : Type 0) (S : A → List Lexeme → Type 0) (left : List Lexeme) (end : TextEnd) (fault : LexFault) : Type 0 where
  pub begins : Begins A S left
  pub faulty : end ≡ Faulty fault

-- All tokens that are left begin a spelling that needs more of them, and the text goes on with this fault.
pub record StopsBefore (A : Type 0) (S : A → List Lexeme → Type 0) (left : List Lexeme) (end : TextEnd) (fault : LexFault) : Type 0 where
  pub begins : NeedsMore A S left
  pub faulty : end ≡ Faulty fault

-- tokens that spell two values spell one
abbrev pub HasOneValue : (A : Type 0) → (A → List Lexeme → Type 0) → Type 0
HasOneValue A S = (a b : A) (tokens : List Lexeme) → S a tokens → S b tokens → a ≡ b

-- What tokens and their end have in them: a value with the tokens behind it, a place where no spelling goes on, a level too
-- deep, or a place where the text goes on with no token.
pub data Finding (A : Type 0) : Type 0 where
  taken : A → List Lexeme → Finding A
  no_spelling : Place → Finding A
  level_too_deep : Place → Finding A
  no_token : LexFault → Finding A

-- They have this in them. S is the language within the depths, M the one that leaves them aside.
abbrev pub Finds : (A : Type 0) (S M : A → List Lexeme → Type 0) → (Lexeme → Bool) → List Lexeme → TextEnd → Finding A → Type 0
Finds A S M ends left end (taken x rest) = Takes A S ends left end x rest
Finds A S M ends left end (no_spelling place) = FirstFault A S M ends left end place
Finds A S M ends left end (level_too_deep place) = FirstTooDeep A S M ends left place
Finds A S M ends left end (no_token fault) = StopsInside A S left end fault

-- Any tokens and their end have exactly one of these in them.
pub record HasOneFinding (A : Type 0) (There : List Lexeme → TextEnd → Finding A → Type 0) : Type 0 where
  pub some : (left : List Lexeme) (end : TextEnd) → (found : Finding A) × There left end found
  pub one : (left : List Lexeme) (end : TextEnd) (a b : Finding A) → There left end a → There left end b → a ≡ b

-- where the tokens go on: the place of the next token or of the end of the text, or the fault
abbrev pub next_place : List Lexeme → TextEnd → Result Place LexFault
next_place [] (Finished place) = Ok place
next_place [] (Faulty fault) = Err fault
next_place (t ∷ ts) end = Ok t.place

-- the tokens that are left by what was found: those behind the value, or those from the fault on
abbrev pub Leaves : {A : Type 0} → Finding A → List Lexeme → TextEnd → Type 0
Leaves (taken x rest) left end = left ≡ rest
Leaves (no_spelling place) left end = next_place left end ≡ Ok place
Leaves (level_too_deep place) left end = next_place left end ≡ Ok place
Leaves (no_token fault) left end = next_place left end ≡ Err fault
