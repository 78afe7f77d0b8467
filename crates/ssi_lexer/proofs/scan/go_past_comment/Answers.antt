use Rattle.std.proofs.Common.{length, refl, ap, ◌∙◌, arith}
use Rattle.ssi_lexer.specs.Pieces.{Comment}
use Rattle.ssi_lexer.proofs.Runs.{take_run, drop_rest, past_piece}
use Rattle.ssi_lexer.proofs.scan.go_past_comment.Goals as goal

pub returns-clause-cursor : goal.returns-clause-cursor
returns-clause-cursor c =
    let line = ap length (c.split_at.ensures.front ∙ take_run Comment c.line_len.result c.args.more.now c.line_len.ensures.value) in
    c.go_right.ensures ∙ past_piece Comment c.args.cursor.now 47 c.args.more.now _ _ refl (omega arith) (omega arith)

pub returns-clause-rest : goal.returns-clause-rest
returns-clause-rest c = c.split_at.ensures.back ∙ drop_rest Comment c.line_len.result c.args.more.now c.line_len.ensures.value
