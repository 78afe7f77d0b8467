use Rattle.std.proofs.Common.{◌++◌, ◌∷◌, [], map, take, subst, ap, sym, ◌∙◌}
use Rattle.std.proofs.lemmas.List.{take_more}
use Rattle.ssi_names.proofs.Lists.{map_entry, map_pushed}
use Rattle.ssi_names.proofs.Orders.{next_entry}
use Rattle.ssi_names.proofs.judge.judge_rules.Goals as goal

pub loop-i-preserved : goal.loop-i-preserved
loop-i-preserved g c =
    let scope = c.args.scope.now in
    let entries = c.args.entries.now in
    let i = c.loop-i.i in
    let entry = c.index-entries-i in
    let within = c.loop-i-test.true in
    let so_far = c.loop-i.invariant in
    let made = c.in_ok-rule.ensures in
    let seen_as = g.J.RuleJudge.seen_as in
    let row = c.in_ok-rule.field-0 in
    record {
      faults = next_entry (g.J.RuleJudge.faults_of scope) entries i entry.result _ c.loop-i.faults.items c.rule.new.faults.items within entry.is so_far.faults made.faults;
      rows = map_entry (g.J.RuleJudge.row_of scope) entries i entry.result (seen_as row) (map seen_as c.loop-i.rows.items) (map seen_as c.push.new.self.items) within entry.is so_far.rows made.row
          (map_pushed seen_as c.loop-i.rows.items c.push.new.self.items row c.in_ok-push.ensures.items);
      after = subst (g.J.RuleJudge.is_after c.rule.new.self scope) (sym (take_more entries i entry.result within ∙ ap (λ x. take i entries ++ x ∷ []) (sym entry.is))) made.after;
    }
