use Rattle.std.proofs.Common.{sym, arith}
use Rattle.ssi_lexer.proofs.Runs.{prefix_len-mark}
use Rattle.ssi_lexer.proofs.scan.run_len.Goals as goal

pub returns-in-Comma : goal.returns-in-Comma
returns-in-Comma c = record { value = sym (prefix_len-mark c.args.kind c.args.rest.now c.in-Comma.is); within = omega arith }
