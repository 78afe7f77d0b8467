-- What a reader of tokens shows and keeps.
use Rattle.std.specs.Prelude.{length, All}
use Rattle.ssi_lexer.specs.declared.tokens.Tokens.TheInside.{Inside}
use Rattle.ssi_lexer.specs.Lexemes.{IsLexeme, StandsIn}
use Rattle.ssi_lexer.specs.Readings.{Reading}
use Rattle.ssi_lexer.specs.Scan.{tokens_of, IsWithin, AreItsCharacters}

-- the token cut in advance and the tokens of the rest
abbrev pub shown : Inside → Reading
shown tokens = record { text = tokens.text.now; position = tokens.position; left = (tokens_of tokens.front).0; end = (tokens_of tokens.front).1 }

-- what is true of each reader
pub record IsKept (tokens : Inside) : Type 0 where
  pub within : IsWithin tokens.front.cursor (length tokens.front.rest.now)
  pub characters : AreItsCharacters tokens.front.ahead tokens.front.characters.now
  pub formed : All IsLexeme (tokens_of tokens.front).0
  pub stand : All (StandsIn tokens.text.now) (tokens_of tokens.front).0
