use Rattle.std.proofs.Common.{refl}
use Rattle.ssi_lexer.specs.TokenTests.{test_of}
use Rattle.ssi_script.proofs.Taking.{refused, taken}
use Rattle.ssi_script.proofs.words.take_token.Goals as goal

pub returns-in-Ok-clause-reads : goal.returns-in-Ok-clause-reads
returns-in-Ok-clause-reads c = taken (test_of c.args.wanted) c.args.tokens.now.left c.in-Ok.token c.args.tokens.now c.take.new.self refl c.in-Ok.ensures.answer c.take.ensures.moved

pub returns-in-Err-clause-reads : goal.returns-in-Err-clause-reads
returns-in-Err-clause-reads c = refused (test_of c.args.wanted) c.args.tokens.now.left c.in-Err.field-0 c.args.tokens.now c.take.new.self refl c.in-Err.ensures.answer c.take.ensures.moved
