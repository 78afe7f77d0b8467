use Rattle.std.proofs.Common.{length, ◌-◌, ◌≡◌, ◌≤◌, take, ◌*◌}
use Rattle.ssi_state.proofs.state.equal_blocks.Given as goal

abbrev pub invariant-loop-equal : goal.invariant-loop-equal
invariant-loop-equal g l = record {
  within : l.equal ≤ length l.blocks;
  same : take (l.equal * g.row.N) l.before ≡ take (l.equal * g.row.N) l.now;
}

abbrev pub decreases-loop-equal : goal.decreases-loop-equal
decreases-loop-equal g l = length l.blocks - l.equal
