-- What a reader of trees has done, by its answer.
use Rattle.std.specs.Prelude.{◌≡◌, ℕ, Bool, List, Option, Some, None, Result, Ok, Err}
use Rattle.std.specs.Option.{IfSome}
use Rattle.ssi_lexer.specs.declared.token.TextEnd.{TextEnd}
use Rattle.ssi_lexer.specs.Lexemes.{Lexeme}
use Rattle.ssi_lexer.specs.Readings.{Reading, GoesOn}
use Rattle.ssi_lexer.specs.Spelling.{AtAnyDepth, TakesFront, FirstFault, StopsBefore, Finding, taken, no_spelling, level_too_deep, no_token, Finds, Leaves}
use Rattle.ssi_terms.specs.declared.read_fault.ReadFault.{ReadFault}
use Rattle.ssi_terms.specs.declared.read_fault.ReadFault.TheVariants as f
use Rattle.ssi_terms.specs.Grammar.{deepest}
use Rattle.ssi_terms.specs.Tests.{any_token}

-- what a reader has found, by its answer and the tokens that it leaves; nothing where memory ran out
abbrev pub found_by : {A : Type 0} → Result A ReadFault → List Lexeme → Option (Finding A)
found_by (Ok tree) rest = Some (taken tree rest)
found_by (Err (f.Syntax place)) rest = Some (no_spelling place)
found_by (Err (f.TooDeep place)) rest = Some (level_too_deep place)
found_by (Err (f.Lex fault)) rest = Some (no_token fault)
found_by (Err f.Memory) rest = None

-- What was found is there, and exactly the tokens before it were taken: those of the tree, or those before the fault. Where
-- memory ran out some tokens were taken. The text and the end of its tokens stay.
pub record Tells (A : Type 0) (There : List Lexeme → TextEnd → Finding A → Type 0) (old new : Reading) (result : Result A ReadFault) : Type 0 where
  pub found : IfSome (found_by result new.left) (There old.left old.end)
  pub leaves : IfSome (found_by result new.left) (λ found. Leaves found new.left new.end)
  pub goes_on : GoesOn old new

-- what tokens have in them of a language by its depth, within eight levels, up to a token that ends its values
abbrev pub FindsWithin : (A : Type 0) → (ℕ → A → List Lexeme → Type 0) → (Lexeme → Bool) → List Lexeme → TextEnd → Finding A → Type 0
FindsWithin A S ends left end found = Finds A (S deepest) (AtAnyDepth A S) ends left end found

-- what they have in them of a language without levels
abbrev pub FindsFlat : (A : Type 0) → (A → List Lexeme → Type 0) → (Lexeme → Bool) → List Lexeme → TextEnd → Finding A → Type 0
FindsFlat A S ends left end found = Finds A S S ends left end found

-- what they have in front of such a language, whatever comes next
abbrev pub FindsFront : (A : Type 0) → (A → List Lexeme → Type 0) → List Lexeme → TextEnd → Finding A → Type 0
FindsFront A S left end (taken x rest) = TakesFront A S left x rest
FindsFront A S left end (no_spelling place) = FirstFault A S S any_token left end place
FindsFront A S left end (level_too_deep place) = ⊥
FindsFront A S left end (no_token fault) = StopsBefore A S left end fault

-- Whatever tokens have in them is what a reader tells, unless memory runs out.
abbrev pub IsTold : (A : Type 0) → (List Lexeme → TextEnd → Finding A → Type 0) → Type 0
IsTold A There = (old new : Reading) (result : Result A ReadFault) (found : Finding A) → Tells A There old new result → There old.left old.end found
    → IfSome (found_by result new.left) (λ told. told ≡ found)
