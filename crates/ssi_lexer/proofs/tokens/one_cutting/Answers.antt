use Rattle.ssi_lexer.proofs.Streams.{some_tokens, same_tokens}
use Rattle.ssi_lexer.proofs.tokens.one_cutting.Goals as goal

pub returns-clause-some : goal.returns-clause-some
returns-clause-some c = some_tokens

pub returns-clause-one : goal.returns-clause-one
returns-clause-one c = same_tokens
