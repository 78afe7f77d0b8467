-- What the readers of a step compute, as functions of the tokens that are left. Proofs go by them; no public clause cites them, since Steps says what is read.
use Rattle.std.specs.Prelude.{◌≡◌, ℕ, nat_le, ◌&&◌, if◌then◌else◌, codes, List, [], ◌∷◌, Option, Some, None, is_some, Bool, true, false, Result, Ok, Err}
use Rattle.ssi_base.specs.declared.place.Place.{Place}
use Rattle.ssi_identities.specs.DataSets.{Plan}
use Rattle.ssi_lexer.specs.declared.token.TextEnd.{TextEnd}
use Rattle.ssi_lexer.specs.declared.token.TextEnd.TheVariants.{Finished, Faulty}
use Rattle.ssi_lexer.specs.declared.token.TokenKind.TheVariants.{Name}
use Rattle.ssi_lexer.specs.declared.wanted.Stop.TheVariants.{Syntax}
use Rattle.ssi_lexer.specs.Lexemes.{Lexeme, token_of}
use Rattle.ssi_lexer.specs.Parsers.{Outcome, Parser, ◌&◌, either, mapped, number_at, tok, valued}
use Rattle.ssi_lexer.specs.Readings.{Reading}
use Rattle.ssi_lexer.specs.TokenTests.{of_kind, word, name, dot}
use Rattle.ssi_script.specs.declared.step.EventWord.{EventWord}
use Rattle.ssi_script.specs.declared.step.EventWord.TheVariants as event
use Rattle.ssi_script.specs.declared.step.ModuleWord.{ModuleWord}
use Rattle.ssi_script.specs.declared.step.ModuleWord.TheVariants as becomes
use Rattle.ssi_script.specs.declared.step.StepTree.{StepTree}
use Rattle.ssi_script.specs.declared.step.StepTree.TheVariants as tree
use Rattle.ssi_script.specs.declared.step.ScriptFault.{ScriptFault}
use Rattle.ssi_script.specs.declared.step.ScriptStep.{ScriptStep}
use Rattle.ssi_script.specs.declared.words.Misspelled.{Misspelled}
use Rattle.ssi_script.specs.declared.words.Number.{Number}
use Rattle.ssi_script.specs.Meanings.{misspelled_at, step_of}
use Rattle.ssi_script.specs.Steps.{letters_of_event, letters_of_module}

-- what a function that reads so ensures; it takes no memory, and there are no levels
abbrev pub ReadsStep : {A : Type 0} → Outcome A → Result A Misspelled → List Lexeme → Type 0
ReadsStep outcome (Ok a) new = outcome ≡ Ok (a, new)
ReadsStep outcome (Err misspelled) new = outcome ≡ Err (Syntax, new)

-- the first of these that has the token's letters for its word
abbrev pub told_by : {A : Type 0} → (A → List ℕ) → List A → Lexeme → Option A
told_by letters [] lexeme = None
told_by letters (a ∷ others) lexeme = if word (letters a) lexeme then Some a else told_by letters others lexeme

-- each word of an event
abbrev pub event_words : List EventWord
event_words = event.Occupy ∷ event.Clear ∷ event.Fail ∷ event.Mend ∷ event.Jam ∷ event.Unjam ∷ []

-- the word of an event that the token is
abbrev pub event_word_at : Lexeme → Option EventWord
event_word_at = told_by letters_of_event event_words

-- each word that tells an address
abbrev pub module_words : List ModuleWord
module_words = becomes.Dead ∷ becomes.Live ∷ becomes.Lose ∷ becomes.Drop ∷ []

-- the one of them that the token is
abbrev pub module_word_at : Lexeme → Option ModuleWord
module_word_at = told_by letters_of_module module_words

-- the number with its token, if it lies within the bounds
abbrev pub with_token : ℕ → ℕ → Lexeme → Option ℕ → Option Number
with_token least most lexeme None = None
with_token least most lexeme (Some n) = if nat_le least n && nat_le n most then Some (record { value = n; token = token_of lexeme }) else None

-- a number within bounds that a token is, with it
abbrev pub number_told : ℕ → ℕ → Lexeme → Option Number
number_told least most lexeme = with_token least most lexeme (number_at lexeme)

-- the largest number that a token can be
abbrev pub largest : ℕ
largest = 9999999

-- a number that fits in a byte
unfoldable pub byte : Parser ℕ
byte = mapped (λ number. number.value) (valued (number_told 0 255))

unfoldable pub four_bytes : Parser (List ℕ)
four_bytes = mapped (λ x. x.0 ∷ x.1.0 ∷ x.1.1.0 ∷ x.1.1.1 ∷ []) (byte & (byte & (byte & byte)))

-- the forms of a step
unfoldable pub put : Parser StepTree
put = mapped (λ x. tree.Panel 0 x.1.1.0) (tok (word (codes "panel")) & (valued (number_told 0 0) & (tok (of_kind Name) & tok dot)))

unfoldable pub some_cycles : Parser StepTree
some_cycles = mapped (λ x. tree.Cycle x.1.0.value x.1.0.token) (tok (word (codes "cycle")) & (valued (number_told 1 largest) & tok dot))

unfoldable pub an_event : Parser StepTree
an_event = mapped (λ x. tree.Happen x.0 x.1.0) (valued event_word_at & (tok (of_kind Name) & tok dot))

unfoldable pub at_a_module : Parser StepTree
at_a_module = mapped (λ x. tree.Module x.0 x.1.0.value x.1.0.token) (valued module_word_at & (valued (number_told 0 largest) & tok dot))

unfoldable pub raw : Parser StepTree
raw = mapped (λ x. tree.Raw x.1.0.value x.1.0.token x.1.1.0) (tok (word (codes "raw")) & (valued (number_told 0 largest) & (four_bytes & tok dot)))

-- whether the token is a word that tells an address
abbrev pub is_module_word : Lexeme → Bool
is_module_word lexeme = is_some (module_word_at lexeme)

-- a step, by its word
unfoldable pub a_step : Parser StepTree
a_step =
    either (word (codes "panel")) put
    (either (word (codes "cycle")) some_cycles
    (either (word (codes "raw")) raw
    (either is_module_word at_a_module an_event)))

-- `file RUN`
unfoldable pub header : Parser (Unit {0})
header = mapped (λ _. tt) (tok (word (codes "file")) & tok (name (codes "RUN")))

-- whether nothing comes next but the end of the text
abbrev pub is_at_end : List Lexeme → TextEnd → Bool
is_at_end [] (Finished place) = true
is_at_end [] (Faulty fault) = false
is_at_end (t ∷ ts) end = false

-- where a reader stands that goes no further
abbrev pub stop_place : List Lexeme → TextEnd → Place
stop_place [] (Finished place) = place
stop_place [] (Faulty fault) = fault.place
stop_place (t ∷ ts) end = t.place

-- The next step in a layout, behind steps that made so many minor cycles, by what its reader answers: the meaning of the step that is read, or a fault of spelling where
-- none is.
abbrev pub IsNextBy : Plan → ℕ → Reading → Reading → Outcome StepTree → Result ScriptStep ScriptFault → Type 0
IsNextBy plan made old new (Ok r) answer = (new.left ≡ r.1) × (answer ≡ step_of plan old.text made r.0)
IsNextBy plan made old new (Err halt) answer = (new.left ≡ halt.1) × (answer ≡ Err (misspelled_at (stop_place halt.1 old.end)))

abbrev pub IsNext : Plan → ℕ → Reading → Reading → Result ScriptStep ScriptFault → Type 0
IsNext plan made old new answer = IsNextBy plan made old new (a_step old.left) answer
