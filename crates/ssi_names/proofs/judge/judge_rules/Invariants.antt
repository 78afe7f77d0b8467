use Rattle.std.proofs.Common.{◌≡◌, ◌++◌, [], map, take}
use Rattle.ssi_names.specs.Occurrences.{in_order}
use Rattle.ssi_names.proofs.judge.judge_rules.Given as goal

abbrev pub invariant-loop-i : goal.invariant-loop-i
invariant-loop-i g l = record {
  faults : l.faults.items ≡ l.fn.faults.items ++ in_order (g.J.RuleJudge.faults_of l.scope) [] (take l.i l.entries);
  rows : map g.J.RuleJudge.seen_as l.rows.items ≡ map (g.J.RuleJudge.row_of l.scope) (take l.i l.entries);
  after : g.J.RuleJudge.is_after l.judge l.scope (take l.i l.entries);
}
