-- A source, and the text that spells it.
use Rattle.std.specs.Prelude.{◌≡◌, ℕ, List, ◌++◌}
use Rattle.ssi_lexer.specs.declared.token.TextEnd.{TextEnd}
use Rattle.ssi_lexer.specs.Lexemes.{Lexeme, AreTokens}
use Rattle.ssi_terms.specs.Grammar.{deepest}
use Rattle.ssi_names.specs.SourceTexts.{SourceText}
use Rattle.ssi_names.specs.Sources.{SpellsSource}

-- the tokens of the text have a piece that spells the tree
pub record IsSpelledIn (text : List ℕ) (tree : SourceText) : Type 0 where
  pub lexemes : List Lexeme
  pub end : TextEnd
  pub tokens : AreTokens text 0 lexemes end
  pub before : List Lexeme
  pub files : List Lexeme
  pub after : List Lexeme
  pub parts : lexemes ≡ before ++ (files ++ after)
  pub spells : SpellsSource deepest tree files
