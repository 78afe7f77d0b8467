use Rattle.std.proofs.Common.{sym, ◌∙◌, arith}
use Rattle.ssi_script.proofs.Doing.{next_within}
use Rattle.ssi_script.proofs.ScriptLaws.{all_read, faulty, next_shorter, one_more}
use Rattle.ssi_script.proofs.script.steps.Goals as goal

pub returns-in-Err : goal.returns-in-Err
returns-in-Err c =
    let i = c.steps.invariant in
    faulty c.args.image.now c.args.tokens.now.text c.args.tokens.now.end c.args.tokens.now.left c.steps.steps.items c.steps.made c.steps.tokens c.next_step.new.tokens i.text i.end i.read
    c.in-Err.fault (sym c.is_at_end.ensures ∙ c.steps-test.true) c.in-Err.ensures.next

pub steps-smaller : goal.steps-smaller
steps-smaller c = next_shorter c.args.image.now c.steps.made c.steps.tokens c.next_step.new.tokens c.in-Ok.step c.in-Ok.ensures.next

pub steps-preserved : goal.steps-preserved
steps-preserved c =
    let i = c.steps.invariant in
    let few = next_within c.args.image.now c.steps.made c.steps.tokens c.next_step.new.tokens c.in-Ok.step i.few c.in-Ok.ensures.next in
    record {
      read = rw (c.in_ok-push.ensures.items, c.cycles_of-made.ensures)
          (one_more c.args.image.now c.args.tokens.now.text c.args.tokens.now.end c.args.tokens.now.left c.steps.steps.items c.steps.made c.steps.tokens c.next_step.new.tokens i.text i.end i.read c.in-Ok.step c.in-Ok.ensures.next);
      few = omega (arith, few, c.cycles_of-made.ensures);
      text = c.next_step.ensures.goes_on.text ∙ i.text;
      end = c.next_step.ensures.goes_on.end ∙ i.end;
    }

pub returns : goal.returns
returns c =
    let i = c.steps.invariant in
    all_read c.args.image.now c.args.tokens.now.text c.args.tokens.now.end c.args.tokens.now.left c.steps.steps.items c.steps.made c.steps.tokens c.steps.tokens i.text i.end i.read
    (sym c.is_at_end.ensures ∙ c.steps-test.false)
