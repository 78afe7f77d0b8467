-- There is one answer to the words and the input.
use Rattle.std.proofs.Common.{◌≡◌, ℕ, List, Option, Some, None, refl, sym, ap, subst, ◌∙◌, arith}
use Rattle.ssi_lexer.specs.declared.token.TextEnd.{TextEnd}
use Rattle.ssi_lexer.specs.Lexemes.{Lexeme, AreTokens}
use Rattle.ssi_lexer.specs.Spelling.{Finding, HasOneFinding, level_too_deep, no_spelling, no_token, taken}
use Rattle.ssi_identities.specs.DataSets.{Plan}
use Rattle.ssi_terms.specs.Readers.{FindsWithin}
use Rattle.ssi_terms.specs.Tests.{ends_file}
use Rattle.ssi_names.specs.SourceTexts.{SourceText}
use Rattle.ssi_names.specs.Sources.{SpellsSource}
use Rattle.ssi_trackside.specs.Module.{ModuleState}
use Rattle.ssi_script.specs.declared.step.ScriptFault.{ScriptFault}
use Rattle.ssi_script.specs.declared.step.ScriptStep.{ScriptStep}
use Rattle.ssi_script.specs.Scripts.{IsScript}
use Rattle.ssi_script.specs.Sessions.{session_of}
use Rattle.ssi_run.specs.declared.words.Command.TheVariants.{Run}
use Rattle.ssi_run.specs.Answers.{Answer, DataPart, HasOneAnswer, HasOneStatus, OfFinding, RunsText, Script, Within, a_plan, name_faults, script_answer, too_large, within}
use Rattle.ssi_run.proofs.Layers.{Tree}

-- tokens are one script of a layout at most
abbrev pub OneScript : Type 0
OneScript = (plan : Plan) (text : List ℕ) (left : List Lexeme) (end : TextEnd) (a b : List ScriptStep) (e f : Option ScriptFault)
    → IsScript plan text left end a e → IsScript plan text left end b f → (a ≡ b) × (e ≡ f)

module _ (scripts : OneScript) (input : List ℕ) (shelf : List ModuleState) (script : List Lexeme) (end : TextEnd) where
  one_plan : (plan : Plan) (a b : Answer) → Script input shelf plan script end a → Script input shelf plan script end b → a ≡ b
  one_plan plan a b p q =
      let same = scripts plan input script end p.steps q.steps p.fault q.fault p.script_is q.script_is in
      p.answer_is
      ∙ ap (λ (steps : List ScriptStep). script_answer input steps p.fault (session_of plan shelf)) same.0
      ∙ ap (λ (fault : Option ScriptFault). script_answer input q.steps fault (session_of plan shelf)) same.1
      ∙ sym q.answer_is

  one_tree : (tree : SourceText) (a b : Answer) → Tree input shelf tree script end a → Tree input shelf tree script end b → a ≡ b
  one_tree tree a b (name_faults some) (name_faults more) = refl
  one_tree tree a b (name_faults some) (a_plan y none q) = absurd (some none)
  one_tree tree a b (a_plan x none p) (name_faults some) = absurd (some none)
  one_tree tree a b (a_plan x none p) (a_plan y nothing q) = one_plan _ x y p q

module _ (scripts : OneScript) (findings : HasOneFinding SourceText (FindsWithin SourceText SpellsSource ends_file))
    (cuttings : (text : List ℕ) (start : ℕ) (a b : List Lexeme) (e f : TextEnd) → AreTokens text start a e → AreTokens text start b f → (a ≡ b) × (e ≡ f)) where
  module _ (input : List ℕ) (shelf : List ModuleState) (lexemes : List Lexeme) (end : TextEnd) where
    one_found : (found : Finding SourceText) (a b : Answer) → OfFinding shelf (Tree input shelf) end found a → OfFinding shelf (Tree input shelf) end found b → a ≡ b
    one_found (taken tree behind) a b s t = one_tree scripts input shelf behind end tree a b s t
    one_found (no_spelling place) a b s t = s ∙ sym t
    one_found (level_too_deep place) a b s t = s ∙ sym t
    one_found (no_token fault) a b s t = s ∙ sym t

    one_part : (a b : Answer) → DataPart shelf (Tree input shelf) lexemes end a → DataPart shelf (Tree input shelf) lexemes end b → a ≡ b
    one_part a b s t =
        let same = findings.one lexemes end s.found t.found s.there t.there in
        one_found t.found a b (subst (λ (found : Finding SourceText). OfFinding shelf (Tree input shelf) end found a) same s.answered) t.answered

  one_input : (input : List ℕ) (shelf : List ModuleState) (a b : Answer) → RunsText input shelf a → RunsText input shelf b → a ≡ b
  one_input input shelf a b s t =
      let same = cuttings input 0 s.lexemes t.lexemes s.end t.end s.tokens t.tokens in
      let here = subst (λ (ls : List Lexeme). DataPart shelf (Tree input shelf) ls s.end a) same.0 s.answered in
      let there = subst (λ (e : TextEnd). DataPart shelf (Tree input shelf) t.lexemes e a) same.1 here in
      one_part input shelf t.lexemes t.end a b there t.answered

  one_run : (input : List ℕ) (shelf : List ModuleState) (a b : Answer) → Within input shelf (RunsText input shelf) a → Within input shelf (RunsText input shelf) b → a ≡ b
  one_run input shelf a b (within x small s) (within y fits t) = one_input input shelf x y s t
  one_run input shelf a b (within x small s) (too_large past) = absurd (omega arith)
  one_run input shelf a b (too_large past) (within y fits t) = absurd (omega arith)
  one_run input shelf a b (too_large past) (too_large more) = refl

  pub one : HasOneAnswer
  one None input shelf a b fixed s t = s ∙ sym t
  one (Some Run) input shelf a b fixed s t = one_run input shelf a b s t

  pub one_status : HasOneStatus
  one_status None input shelf a b s t = ap (λ (x : Answer). x.status) (s ∙ sym t)
  one_status (Some Run) input shelf a b s t = ap (λ (x : Answer). x.status) (one_run input shelf a b s t)
