-- What the program answers to its words and its input.
use Rattle.std.specs.Prelude.{◌≡◌, ◌≢◌, ℕ, ◌<◌, ◌≤◌, List, [], ◌∷◌, ◌++◌, length, Option, Some, None}
use Rattle.ssi_lexer.specs.declared.token.TextEnd.{TextEnd}
use Rattle.ssi_lexer.specs.Lexemes.{Lexeme, AreTokens}
use Rattle.ssi_lexer.specs.Spelling.{Finding, level_too_deep, no_spelling, no_token, taken}
use Rattle.ssi_terms.specs.Readers.{FindsWithin}
use Rattle.ssi_terms.specs.Tests.{ends_file}
use Rattle.ssi_identities.specs.DataSets.{Plan}
use Rattle.ssi_names.specs.SourceTexts.{SourceText}
use Rattle.ssi_names.specs.Sources.{SpellsSource}
use Rattle.ssi_names.specs.Faults.{faults_of}
use Rattle.ssi_names.specs.Rows.{resolved}
use Rattle.ssi_script.specs.declared.step.ScriptFault.{ScriptFault}
use Rattle.ssi_script.specs.declared.step.ScriptStep.{ScriptStep}
use Rattle.ssi_script.specs.Scripts.{IsScript}
use Rattle.ssi_script.specs.Sessions.{Session, after_steps, session_of}
use Rattle.ssi_script.specs.Traces.{ShelfPiece, steps_pieces}
use Rattle.ssi_trackside.specs.Module.{ModuleState}
use Rattle.ssi_run.specs.declared.status.Status.{Status}
use Rattle.ssi_run.specs.declared.status.Status.TheVariants.{Done, Faulty, NoShape, BadScript, PastLimit}
use Rattle.ssi_run.specs.declared.words.Command.{Command}
use Rattle.ssi_run.specs.declared.words.Command.TheVariants.{Run}
use Rattle.ssi_run.specs.FaultLines.{lexical_line, syntax_line, depth_line, name_fault_lines, script_fault_line}
use Rattle.ssi_run.specs.Statuses.{input_limit, usage_line, too_large_line}

-- how much of its source an answer takes: nothing, all to the end, or more than the limit
pub data Reading : Type 0 where
  Unread : Reading
  ToEnd : Reading
  TooMuch : Reading

-- an answer: its status; how much it takes of the source; what is written, piece by piece, each with the modules as they stand when it is written; and the modules
-- as they are left
pub record Answer : Type 0 where
  pub status : Status
  pub reading : Reading
  pub pieces : List ShelfPiece
  pub left : List ModuleState

-- a text alone: the modules stay as they are
abbrev pub alone : List ModuleState → Status → Reading → List ℕ → Answer
alone shelf status reading text = record { status = status; reading = reading; pieces = record { text = text; standing = shelf } ∷ []; left = shelf }

-- the answer to an input whose data part has faults: their lines
abbrev pub faulty : List ModuleState → List ℕ → Answer
faulty shelf lines = alone shelf Faulty ToEnd lines

-- the answer to a script: the trace of its steps, and then the line of its fault, if it has one
abbrev pub script_answer : List ℕ → List ScriptStep → Option ScriptFault → Session → Answer
script_answer input steps None session =
    record { status = Done; reading = ToEnd; pieces = steps_pieces steps session; left = (after_steps steps session).shelf }
script_answer input steps (Some fault) session =
    let left = (after_steps steps session).shelf in
    record { status = BadScript; reading = ToEnd; pieces = steps_pieces steps session ++ record { text = script_fault_line input fault; standing = left } ∷ []; left = left }

-- What is answered to a data set, and to the tokens behind it, which are its script, from the start of the interlocking with these modules.
pub record Script (input : List ℕ) (shelf : List ModuleState) (plan : Plan) (behind : List Lexeme) (end : TextEnd) (answer : Answer) : Type 0 where
  pub steps : List ScriptStep
  pub fault : Option ScriptFault
  pub script_is : IsScript plan input behind end steps fault
  pub answer_is : answer ≡ script_answer input steps fault (session_of plan shelf)

-- What is answered to a tree and to the tokens behind it: the faults of its names, or what its data set is answered, with the same tokens behind it.
pub data Named (input : List ℕ) (shelf : List ModuleState) (OfPlan : Plan → List Lexeme → TextEnd → Answer → Type 0) (tree : SourceText) (behind : List Lexeme) (end : TextEnd) : Answer → Type 0 where
  name_faults : faults_of input tree ≢ [] → Named input shelf OfPlan tree behind end (faulty shelf (name_fault_lines input (faults_of input tree)))
  a_plan : (answer : Answer) → faults_of input tree ≡ [] → OfPlan (resolved input tree) behind end answer → Named input shelf OfPlan tree behind end answer

-- what is answered to what was found in the tokens of a data part: to a tree as what stands behind it has it, to a fault its line
abbrev pub OfFinding : List ModuleState → (SourceText → List Lexeme → TextEnd → Answer → Type 0) → TextEnd → Finding SourceText → Answer → Type 0
OfFinding shelf OfTree end (taken tree behind) answer = OfTree tree behind end answer
OfFinding shelf OfTree end (no_spelling place) answer = answer ≡ faulty shelf (syntax_line place)
OfFinding shelf OfTree end (level_too_deep place) answer = answer ≡ faulty shelf (depth_line place)
OfFinding shelf OfTree end (no_token fault) answer = answer ≡ faulty shelf (lexical_line fault)

-- What is answered to tokens that begin with a data part: its first fault, or what its tree is answered, with the tokens behind it.
pub record DataPart (shelf : List ModuleState) (OfTree : SourceText → List Lexeme → TextEnd → Answer → Type 0) (lexemes : List Lexeme) (end : TextEnd) (answer : Answer) : Type 0 where
  pub found : Finding SourceText
  pub there : FindsWithin SourceText SpellsSource ends_file lexemes end found
  pub answered : OfFinding shelf OfTree end found answer

-- What is answered to a text: what its tokens are answered.
pub record OfText (input : List ℕ) (OfTokens : List Lexeme → TextEnd → Answer → Type 0) (answer : Answer) : Type 0 where
  pub lexemes : List Lexeme
  pub end : TextEnd
  pub tokens : AreTokens input 0 lexemes end
  pub answered : OfTokens lexemes end answer

-- What is answered to an input: that it is too large, or what it is answered within the limit.
pub data Within (input : List ℕ) (shelf : List ModuleState) (OfInput : Answer → Type 0) : Answer → Type 0 where
  within : (answer : Answer) → length input ≤ input_limit → OfInput answer → Within input shelf OfInput answer
  too_large : input_limit < length input → Within input shelf OfInput (alone shelf PastLimit TooMuch too_large_line)

-- what `run` answers to an input within the limit: its data part, and the script behind it
abbrev pub RunsText : List ℕ → List ModuleState → Answer → Type 0
RunsText input shelf = OfText input (DataPart shelf (Named input shelf (Script input shelf)))

-- what a command answers to its input, with these modules; where the words have no shape, the usage line
abbrev pub Answers : Option Command → List ℕ → List ModuleState → Answer → Type 0
Answers None input shelf answer = answer ≡ alone shelf NoShape Unread usage_line
Answers (Some Run) input shelf answer = Within input shelf (RunsText input shelf) answer

-- whether a command reads its input
abbrev pub Reads : Option Command → Type 0
Reads None = ⊥
Reads (Some Run) = Unit {0}

-- whether the output of a command is fixed by its input
abbrev pub IsFixed : Option Command → Type 0
IsFixed None = Unit {0}
IsFixed (Some Run) = Unit {0}

-- all words and every input have an answer, with any modules
abbrev pub HasAnswer : Type 0
HasAnswer = (command : Option Command) (input : List ℕ) (shelf : List ModuleState) → (answer : Answer) × Answers command input shelf answer

-- and one status
abbrev pub HasOneStatus : Type 0
HasOneStatus = (command : Option Command) (input : List ℕ) (shelf : List ModuleState) (a b : Answer) → Answers command input shelf a → Answers command input shelf b → a.status ≡ b.status

-- and one answer, where the command fixes it
abbrev pub HasOneAnswer : Type 0
HasOneAnswer = (command : Option Command) (input : List ℕ) (shelf : List ModuleState) (a b : Answer) → IsFixed command → Answers command input shelf a → Answers command input shelf b → a ≡ b
