use Rattle.std.proofs.Common.{◌++◌, ◌∷◌, [], take, subst, ap, sym, ◌∙◌}
use Rattle.std.proofs.lemmas.List.{take_more}
use Rattle.ssi_names.proofs.Orders.{next_entry}
use Rattle.ssi_names.proofs.judge.judge_all.Goals as goal

pub loop-i-preserved : goal.loop-i-preserved
loop-i-preserved g c =
    let entries = c.args.entries.now in
    let i = c.loop-i.i in
    let entry = c.index-entries-i in
    let within = c.loop-i-test.true in
    let so_far = c.loop-i.invariant in
    record {
      faults = next_entry (g.J.Judge.faults_of c.args.judge.now) entries i entry.result _ c.loop-i.faults.items c.judge.new.faults.items within entry.is so_far.faults
          (c.in_ok-judge.ensures.faults ∙ ap (λ test. c.loop-i.faults.items ++ test (take i entries) entry.result) so_far.same);
      after = subst (g.J.Judge.is_after c.judge.new.self) (sym (take_more entries i entry.result within ∙ ap (λ x. take i entries ++ x ∷ []) (sym entry.is))) c.in_ok-judge.ensures.after;
      same = c.judge.ensures.same ∙ so_far.same;
    }
