-- There is an answer to all words and every input.
use Rattle.std.proofs.Common.{◌≡◌, ℕ, ◌≤◌, ◌<◌, Bool, true, false, List, [], ◌∷◌, Option, Some, None, refl, arith, ◌⊎◌, inl, inr}
use Rattle.std.specs.Prelude.{nat_le, length}
use Rattle.std.proofs.lemmas.Bool.Decides.{nat_tests}
use Rattle.ssi_lexer.specs.declared.token.TextEnd.{TextEnd}
use Rattle.ssi_lexer.specs.Lexemes.{Lexeme, AreTokens}
use Rattle.ssi_lexer.specs.Spelling.{Finding, HasOneFinding, level_too_deep, no_spelling, no_token, taken}
use Rattle.ssi_identities.specs.DataSets.{Plan}
use Rattle.ssi_terms.specs.Readers.{FindsWithin}
use Rattle.ssi_terms.specs.Tests.{ends_file}
use Rattle.ssi_names.specs.SourceTexts.{SourceText}
use Rattle.ssi_names.specs.Sources.{SpellsSource}
use Rattle.ssi_names.specs.Faults.{faults_of}
use Rattle.ssi_names.specs.Rows.{resolved}
use Rattle.ssi_trackside.specs.Module.{ModuleState}
use Rattle.ssi_script.specs.declared.step.ScriptFault.{ScriptFault}
use Rattle.ssi_script.specs.declared.step.ScriptStep.{ScriptStep}
use Rattle.ssi_script.specs.Scripts.{IsScript}
use Rattle.ssi_script.specs.Sessions.{session_of}
use Rattle.ssi_run.specs.declared.words.Command.TheVariants.{Run}
use Rattle.ssi_run.specs.FaultLines.{lexical_line, syntax_line, depth_line, name_fault_lines}
use Rattle.ssi_run.specs.Statuses.{input_limit, usage_line, too_large_line}
use Rattle.ssi_run.specs.declared.status.Status.TheVariants.{NoShape, PastLimit}
use Rattle.ssi_run.specs.Answers.{Answer, DataPart, HasAnswer, OfFinding, RunsText, Script, TooMuch, Unread, Within, a_plan, alone, faulty, name_faults, script_answer, too_large, within}
use Rattle.ssi_run.proofs.Layers.{Tree}

within_or_not : (n limit : ℕ) → (n ≤ limit) ⊎ (limit < n)
within_or_not n limit = by (nat_le n limit) refl
  where
    by : (b : Bool) → nat_le n limit ≡ b → (n ≤ limit) ⊎ (limit < n)
    by true e = inl (grind (arith, nat_tests))
    by false e = inr (grind (arith, nat_tests))

empty_or_not : {X : Type 0} (xs : List X) → (xs ≡ []) ⊎ (xs ≡ [] → ⊥)
empty_or_not [] = inl refl
empty_or_not (x ∷ xs) = inr (λ e. cc)

-- all tokens are some script of a layout
abbrev pub SomeScript : Type 0
SomeScript = (plan : Plan) (text : List ℕ) (left : List Lexeme) (end : TextEnd) → (steps : List ScriptStep) × (fault : Option ScriptFault) × IsScript plan text left end steps fault

module _ (scripts : SomeScript) (input : List ℕ) (shelf : List ModuleState) (tree : SourceText) (behind : List Lexeme) (end : TextEnd) where
  plan_answer : (plan : Plan) → (answer : Answer) × Script input shelf plan behind end answer
  plan_answer plan =
      let is = scripts plan input behind end in
      (script_answer input is.0 is.1 (session_of plan shelf), record { steps = is.0; fault = is.1; script_is = is.2; answer_is = refl })

  tree_by : (faults_of input tree ≡ []) ⊎ (faults_of input tree ≡ [] → ⊥) → (answer : Answer) × Tree input shelf tree behind end answer
  tree_by (inl none) = let p = plan_answer (resolved input tree) in (p.0, a_plan p.0 none p.1)
  tree_by (inr some) = (faulty shelf (name_fault_lines input (faults_of input tree)), name_faults some)

  tree_answer : (answer : Answer) × Tree input shelf tree behind end answer
  tree_answer = tree_by (empty_or_not (faults_of input tree))

module _ (scripts : SomeScript) (findings : HasOneFinding SourceText (FindsWithin SourceText SpellsSource ends_file))
    (cuttings : (text : List ℕ) (start : ℕ) → (lexemes : List Lexeme) × (end : TextEnd) × AreTokens text start lexemes end) where
  module _ (input : List ℕ) (shelf : List ModuleState) where
    found_answer : (end : TextEnd) (found : Finding SourceText) → (answer : Answer) × OfFinding shelf (Tree input shelf) end found answer
    found_answer end (taken tree behind) = tree_answer scripts input shelf tree behind end
    found_answer end (no_spelling place) = (faulty shelf (syntax_line place), refl)
    found_answer end (level_too_deep place) = (faulty shelf (depth_line place), refl)
    found_answer end (no_token fault) = (faulty shelf (lexical_line fault), refl)

    part_answer : (lexemes : List Lexeme) (end : TextEnd) → (answer : Answer) × DataPart shelf (Tree input shelf) lexemes end answer
    part_answer lexemes end =
        let found = findings.some lexemes end in
        let a = found_answer end found.0 in
        (a.0, record { found = found.0; there = found.1; answered = a.1 })

    input_answer : (answer : Answer) × RunsText input shelf answer
    input_answer =
        let cut = cuttings input 0 in
        let a = part_answer cut.0 cut.1 in
        (a.0, record { lexemes = cut.0; end = cut.1; tokens = cut.2; answered = a.1 })

    run_answer : (length input ≤ input_limit) ⊎ (input_limit < length input) → (answer : Answer) × Within input shelf (RunsText input shelf) answer
    run_answer (inl small) = let a = input_answer in (a.0, within a.0 small a.1)
    run_answer (inr past) = (alone shelf PastLimit TooMuch too_large_line, too_large past)

  pub some : HasAnswer
  some None input shelf = (alone shelf NoShape Unread usage_line, refl)
  some (Some Run) input shelf = run_answer input shelf (within_or_not (length input) input_limit)
