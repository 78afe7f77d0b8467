use Rattle.std.proofs.Common.{◌<◌, ◌≤◌, ℕ}
use Rattle.ssi_state.specs.Changes.{IsUnchanged}
use Rattle.ssi_state.proofs.state.State.next_change.Given as goal

abbrev pub invariant-facts : goal.invariant-facts
invariant-facts l = record {
  reached : l.from ≤ l.fact;
  unchanged : (other : ℕ) → l.from ≤ other → other < l.fact → IsUnchanged l.before l.self other;
}
