-- The steps of a script: which tokens spell which step.
use Rattle.std.specs.Prelude.{ℕ, ◌<◌, ◌≤◌, List, [], ◌∷◌, codes}
use Rattle.ssi_lexer.specs.declared.token.TokenKind.TheVariants.{Name}
use Rattle.ssi_lexer.specs.Lexemes.{Lexeme, token_of}
use Rattle.ssi_lexer.specs.TokenTests.{Is, of_kind, word, name, number, dot}
use Rattle.ssi_script.specs.declared.step.EventWord.{EventWord}
use Rattle.ssi_script.specs.declared.step.EventWord.TheVariants as event
use Rattle.ssi_script.specs.declared.step.ModuleWord.{ModuleWord}
use Rattle.ssi_script.specs.declared.step.ModuleWord.TheVariants as becomes
use Rattle.ssi_script.specs.declared.step.StepTree.{StepTree}
use Rattle.ssi_script.specs.declared.step.StepTree.TheVariants as tree

-- the word of a step by which something happens at the trackside
abbrev pub letters_of_event : EventWord → List ℕ
letters_of_event event.Occupy = codes "occupy"
letters_of_event event.Clear = codes "clear"
letters_of_event event.Fail = codes "fail"
letters_of_event event.Mend = codes "mend"
letters_of_event event.Jam = codes "jam"
letters_of_event event.Unjam = codes "unjam"

-- the word of a step that tells an address
abbrev pub letters_of_module : ModuleWord → List ℕ
letters_of_module becomes.Dead = codes "dead"
letters_of_module becomes.Live = codes "live"
letters_of_module becomes.Lose = codes "lose"
letters_of_module becomes.Drop = codes "drop"

-- a number that fits in a byte
pub record IsByte (byte : ℕ) (token : Lexeme) : Type 0 where
  pub fits : byte < 256
  pub is : Is (number byte) token

-- step = panel 0 Q . | cycle n . | occupy T . | clear T . | fail S . | mend S . | jam P . | unjam P .
--      | dead a . | live a . | lose a . | drop a . | raw a b b b b .
-- A name is any name and an address any number; there is panel 0 alone, and at least one minor cycle is made.
pub data SpellsStep : StepTree → List Lexeme → Type 0 where
  a_put : (w p q d : Lexeme) → Is (word (codes "panel")) w → Is (number 0) p → Is (of_kind Name) q → Is dot d
      → SpellsStep (tree.Panel 0 (token_of q)) (w ∷ p ∷ q ∷ d ∷ [])
  some_cycles : (w n d : Lexeme) (count : ℕ) → Is (word (codes "cycle")) w → 1 ≤ count → Is (number count) n → Is dot d
      → SpellsStep (tree.Cycle count (token_of n)) (w ∷ n ∷ d ∷ [])
  an_event : (w x d : Lexeme) (event : EventWord) → Is (word (letters_of_event event)) w → Is (of_kind Name) x → Is dot d
      → SpellsStep (tree.Happen event (token_of x)) (w ∷ x ∷ d ∷ [])
  at_a_module : (w a d : Lexeme) (change : ModuleWord) (address : ℕ) → Is (word (letters_of_module change)) w → Is (number address) a → Is dot d
      → SpellsStep (tree.Module change address (token_of a)) (w ∷ a ∷ d ∷ [])
  four_bytes : (w a b c e f d : Lexeme) (address first second third fourth : ℕ)
      → Is (word (codes "raw")) w → Is (number address) a → IsByte first b → IsByte second c → IsByte third e → IsByte fourth f → Is dot d
      → SpellsStep (tree.Raw address (token_of a) (first ∷ second ∷ third ∷ fourth ∷ [])) (w ∷ a ∷ b ∷ c ∷ e ∷ f ∷ d ∷ [])

-- what a script begins with: `file RUN`
pub data SpellsHeader : Unit {0} → List Lexeme → Type 0 where
  the_header : (w n : Lexeme) → Is (word (codes "file")) w → Is (name (codes "RUN")) n → SpellsHeader tt (w ∷ n ∷ [])
