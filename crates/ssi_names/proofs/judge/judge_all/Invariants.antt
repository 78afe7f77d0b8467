use Rattle.std.proofs.Common.{◌≡◌, ◌++◌, [], take}
use Rattle.ssi_names.specs.Occurrences.{in_order}
use Rattle.ssi_names.proofs.judge.judge_all.Given as goal

abbrev pub invariant-loop-i : goal.invariant-loop-i
invariant-loop-i g l = record {
  faults : l.faults.items ≡ l.fn.faults.items ++ in_order (g.J.Judge.faults_of l.fn.judge) [] (take l.i l.entries);
  after : g.J.Judge.is_after l.judge (take l.i l.entries);
  same : g.J.Judge.faults_of l.judge ≡ g.J.Judge.faults_of l.fn.judge;
}
