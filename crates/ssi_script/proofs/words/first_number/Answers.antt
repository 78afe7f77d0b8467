use Rattle.ssi_script.proofs.Taking.{out_is, within_is}
use Rattle.std.proofs.Common.{sym}
use Rattle.ssi_script.proofs.words.first_number.Goals as goal

pub returns-then-value-most : goal.returns-then-value-most
returns-then-value-most c = sym (within_is c.args.least c.args.most c.args.tokens.now.left c.in_ok-value.value c.in_ok-token.token c.in_ok-value.ensures.some c.in_ok-token.ensures.token c.if-least-value.true c.if-value-most.true)

pub returns-else-least-value : goal.returns-else-least-value
returns-else-least-value c = sym (out_is c.args.least c.args.most c.args.tokens.now.left c.in_ok-value.value c.in_ok-value.ensures.some c.else-least-value.either)
