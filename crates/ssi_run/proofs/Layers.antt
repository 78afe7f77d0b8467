-- What a layer answers, by what the one below it answers.
use Rattle.std.proofs.Common.{◌≡◌, ◌≢◌, ℕ, List, [], Err, subst}
use Rattle.std.specs.Option.{IfSome}
use Rattle.ssi_lexer.specs.declared.token.TextEnd.{TextEnd}
use Rattle.ssi_lexer.specs.Lexemes.{Lexeme, AreTokens}
use Rattle.ssi_lexer.specs.Readings.{GoesOn, Reading}
use Rattle.ssi_lexer.specs.Spelling.{Finding, Takes, taken}
use Rattle.ssi_identities.specs.DataSets.{Plan}
use Rattle.ssi_terms.specs.Grammar.{deepest}
use Rattle.ssi_terms.specs.declared.read_fault.ReadFault.{ReadFault}
use Rattle.ssi_terms.specs.Readers.{found_by}
use Rattle.ssi_terms.specs.Tests.{ends_file}
use Rattle.ssi_names.specs.declared.fault.Fault.{Fault}
use Rattle.ssi_names.specs.SourceTexts.{SourceText}
use Rattle.ssi_names.specs.Sources.{SpellsSource}
use Rattle.ssi_names.specs.Spelled.{IsSpelledIn}
use Rattle.ssi_names.specs.Faults.{faults_of}
use Rattle.ssi_names.specs.Rows.{resolved}
use Rattle.ssi_trackside.specs.Module.{ModuleState}
use Rattle.ssi_run.specs.FaultLines.{name_fault_lines}
use Rattle.ssi_run.specs.Answers.{Answer, Named, RunsText, Script, a_plan, faulty, name_faults}

-- what a tree and what stands behind it are answered
abbrev pub Tree : List ℕ → List ModuleState → SourceText → List Lexeme → TextEnd → Answer → Type 0
Tree input shelf = Named input shelf (Script input shelf)

module _ {input : List ℕ} {shelf : List ModuleState} {tree : SourceText} {behind : List Lexeme} {end : TextEnd} where
  -- a tree without faults is answered what its data set is answered
  pub tree_of_plan : {plan : Plan} → faults_of input tree ≡ [] → plan ≡ resolved input tree → (answer : Answer) → Script input shelf plan behind end answer → Tree input shelf tree behind end answer
  tree_of_plan none is answer p = a_plan answer none (subst (λ (plan : Plan). Script input shelf plan behind end answer) is p)

  -- and one with faults their lines
  pub tree_of_faults : {list : List Fault} → list ≡ faults_of input tree → faults_of input tree ≢ [] → Tree input shelf tree behind end (faulty shelf (name_fault_lines input list))
  tree_of_faults is some = rw is (name_faults some)

module _ {input : List ℕ} {old new : Reading} {tree : SourceText} (same : old.text ≡ input) (tokens : AreTokens input 0 old.left old.end) (takes : Takes SourceText (SpellsSource deepest) ends_file old.left old.end tree new.left) (on : GoesOn old new) where
  -- the text of the tokens that are left spells the tree
  pub spelled_still : IsSpelledIn new.text tree
  spelled_still =
      let spelled : IsSpelledIn input tree = record { lexemes = old.left; end = old.end; tokens = tokens; before = []; files = takes.used; after = new.left; parts = takes.parts; spells = takes.spells } in
      rw (on.text, same) spelled

  -- an input whose data part spells a tree is answered what the tree is answered, with the tokens that are left
  pub input_of_tree : {shelf : List ModuleState} (answer : Answer) → Tree new.text shelf tree new.left new.end answer → RunsText input shelf answer
  input_of_tree {shelf = shelf} answer t =
      let here = subst (λ (text : List ℕ). Tree text shelf tree new.left new.end answer) on.text t in
      let there = subst (λ (text : List ℕ). Tree text shelf tree new.left new.end answer) same here in
      let ended = subst (λ (end : TextEnd). Tree input shelf tree new.left end answer) on.end there in
      record { lexemes = old.left; end = old.end; tokens = tokens; answered = record { found = taken tree new.left; there = takes; answered = ended } }

-- what was found is there, where the reader's fault is this one
pub in_case : (There : Finding SourceText → Type 0) (left : List Lexeme) (found fault : ReadFault) → found ≡ fault → IfSome (found_by {A = SourceText} (Err found) left) There → IfSome (found_by {A = SourceText} (Err fault) left) There
in_case There left found fault is there = subst (λ (e : ReadFault). IfSome (found_by {A = SourceText} (Err e) left) There) is there
