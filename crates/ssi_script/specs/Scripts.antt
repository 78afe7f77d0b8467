-- A script: its steps in a layout, up to its end or to the first step that has a fault.
use Rattle.std.specs.Prelude.{◌≡◌, ℕ, ◌+◌, List, [], ◌∷◌, ◌++◌, Option, Some, None, Ok, Err}
use Rattle.ssi_base.specs.declared.place.Place.{Place}
use Rattle.ssi_lexer.specs.declared.token.TextEnd.{TextEnd}
use Rattle.ssi_lexer.specs.declared.token.TextEnd.TheVariants.{Finished, Faulty}
use Rattle.ssi_lexer.specs.Lexemes.{Lexeme}
use Rattle.ssi_identities.specs.DataSets.{Plan}
use Rattle.ssi_script.specs.declared.step.StepTree.{StepTree}
use Rattle.ssi_script.specs.declared.step.ScriptFault.{ScriptFault}
use Rattle.ssi_script.specs.declared.step.ScriptStep.{ScriptStep}
use Rattle.ssi_script.specs.Meanings.{cycles_of, misspelled_at, step_of}
use Rattle.ssi_script.specs.Misspellings.{IsMisspelled}
use Rattle.ssi_script.specs.Steps.{SpellsHeader, SpellsStep}

-- nothing comes next but the end of the text
abbrev pub IsAtEnd : List Lexeme → TextEnd → Type 0
IsAtEnd [] (Finished place) = Unit {0}
IsAtEnd [] (Faulty fault) = ⊥
IsAtEnd (t ∷ ts) end = ⊥

-- The tokens are these steps, up to the end of the text or to the first step that has a fault, behind steps that made so many minor cycles.
pub data AreSteps (plan : Plan) (text : List ℕ) : ℕ → List Lexeme → TextEnd → List ScriptStep → Option ScriptFault → Type 0 where
  the_end : (made : ℕ) (end : TextEnd) → IsAtEnd [] end → AreSteps plan text made [] end [] None
  a_step : (made : ℕ) (used rest : List Lexeme) (end : TextEnd) (tree : StepTree) (step : ScriptStep) (steps : List ScriptStep) (fault : Option ScriptFault)
      → SpellsStep tree used → step_of plan text made tree ≡ Ok step → AreSteps plan text (made + cycles_of step) rest end steps fault
      → AreSteps plan text made (used ++ rest) end (step ∷ steps) fault
  a_fault : (made : ℕ) (used rest : List Lexeme) (end : TextEnd) (tree : StepTree) (fault : ScriptFault)
      → SpellsStep tree used → step_of plan text made tree ≡ Err fault
      → AreSteps plan text made (used ++ rest) end [] (Some fault)
  no_step : (made : ℕ) (left : List Lexeme) (end : TextEnd) (place : Place)
      → ¬ IsAtEnd left end → IsMisspelled StepTree SpellsStep left end place
      → AreSteps plan text made left end [] (Some (misspelled_at place))

-- The tokens are `file RUN` and then these steps.
pub data IsScript (plan : Plan) (text : List ℕ) : List Lexeme → TextEnd → List ScriptStep → Option ScriptFault → Type 0 where
  a_script : (used rest : List Lexeme) (end : TextEnd) (steps : List ScriptStep) (fault : Option ScriptFault)
      → SpellsHeader tt used → AreSteps plan text 0 rest end steps fault
      → IsScript plan text (used ++ rest) end steps fault
  no_header : (left : List Lexeme) (end : TextEnd) (place : Place) → IsMisspelled (Unit {0}) SpellsHeader left end place
      → IsScript plan text left end [] (Some (misspelled_at place))
