-- Which data set an input has, and what belongs to no module of it.
use Rattle.std.specs.Prelude.{◌≡◌, ℕ, ◌⊎◌, List, []}
use Rattle.ssi_lexer.specs.declared.token.TextEnd.{TextEnd}
use Rattle.ssi_lexer.specs.Lexemes.{Lexeme, AreTokens}
use Rattle.ssi_lexer.specs.Spelling.{taken}
use Rattle.ssi_terms.specs.Readers.{FindsWithin}
use Rattle.ssi_terms.specs.Tests.{ends_file}
use Rattle.ssi_identities.specs.DataSets.{Plan}
use Rattle.ssi_names.specs.SourceTexts.{SourceText}
use Rattle.ssi_names.specs.Sources.{SpellsSource}
use Rattle.ssi_names.specs.Faults.{faults_of}
use Rattle.ssi_names.specs.Rows.{resolved}
use Rattle.ssi_script.specs.OthersStay.{OthersStay}
use Rattle.ssi_run.specs.Endings.{IsInputOf, LeftModules, Seen}

-- the input's data part is a tree without faults, and this is its data set
pub record HasDataSet (input : List ℕ) (plan : Plan) : Type 0 where
  pub lexemes : List Lexeme
  pub end : TextEnd
  pub tokens : AreTokens input 0 lexemes end
  pub tree : SourceText
  pub behind : List Lexeme
  pub there : FindsWithin SourceText SpellsSource ends_file lexemes end (taken tree behind)
  pub no_faults : faults_of input tree ≡ []
  pub plan_is : plan ≡ resolved input tree

-- the input that the source may have had has a data set, and the modules that don't belong to it are as they were
pub record LeavesOthers (seen : Seen) : Type 0 where
  pub input : List ℕ
  pub is_input : IsInputOf seen input
  pub plan : Plan
  pub has : HasDataSet input plan
  pub stay : OthersStay plan seen.shelf_before seen.shelf_after

-- only modules of the data set are driven: all are as they were, or those that don't belong to it
abbrev pub DrivesItsOwn : Seen → Type 0
DrivesItsOwn seen = LeftModules seen ⊎ LeavesOthers seen
