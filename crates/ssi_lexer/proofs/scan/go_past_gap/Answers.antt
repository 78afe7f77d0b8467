use Rattle.std.proofs.Common.{◌∷◌, ℕ, sym, ap, subst, ◌∙◌, arith, length}
use Rattle.ssi_lexer.specs.declared.scan.Cursor.{Cursor}
use Rattle.ssi_lexer.specs.Scan.{IsWithin, stream}
use Rattle.ssi_lexer.proofs.Fronts.{separator_front, comment_front, within_separator}
use Rattle.ssi_lexer.proofs.scan.go_past_gap.Goals as goal

pub returns-then-is_separator-clause-gap : goal.returns-then-is_separator-clause-gap
returns-then-is_separator-clause-gap c =
    let more = c.args.more.now in
    record {
      tokens =
          ap (λ (a : Cursor). stream a more) c.go_past_separator.ensures
          ∙ separator_front c.args.cursor.now c.args.first more (sym c.is_separator.ensures ∙ c.if-is_separator.true);
      shorter = omega arith;
      within = subst (λ (a : Cursor). IsWithin a (length more)) (sym c.go_past_separator.ensures) (within_separator c.args.cursor.now c.args.first (length more) c.requires);
    }

pub returns-then-first-eq47-clause-gap : goal.returns-then-first-eq47-clause-gap
returns-then-first-eq47-clause-gap c =
    let more = c.args.more.now in
    record {
      tokens =
          comment_front c.args.cursor.now c.go_past_comment.new.cursor more c.go_past_comment.result.now c.go_past_comment.ensures.cursor c.go_past_comment.ensures.rest
          ∙ ap (λ (b : ℕ). stream c.args.cursor.now (b ∷ more)) (sym c.if-first-eq47.true);
      shorter = omega arith;
      within = c.go_past_comment.ensures.within;
    }
