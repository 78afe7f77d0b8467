use Rattle.ssi_lexer.proofs.Streams.{tokens_formed}
use Rattle.ssi_lexer.proofs.Standing.{tokens_stand_in}
use Rattle.ssi_lexer.proofs.tokens.tokens_stand.Goals as goal

pub returns-clause-formed : goal.returns-clause-formed
returns-clause-formed c = tokens_formed

pub returns-clause-stand : goal.returns-clause-stand
returns-clause-stand c = tokens_stand_in
