use Rattle.std.proofs.Common.{◌≤◌, ◌-◌, drop}
use Rattle.std.specs.List.{flat_map}
use Rattle.ssi_identities.specs.DataSets.{counts_of}
use Rattle.ssi_identities.specs.Facts.{facts_of}
use Rattle.ssi_identities.specs.States.{fact_total_of}
use Rattle.ssi_state.specs.Changes.{IsNextChange}
use Rattle.ssi_script.specs.Lines.{change_of, changes_of}
use Rattle.ssi_script.proofs.Rest.{IsLeft}
use Rattle.ssi_script.proofs.changes.write_changes.Given as goal

abbrev pub invariant-changes : goal.invariant-changes
invariant-changes g l = record {
  left : IsLeft (g.K.Sink.written l.fn.sink) (g.K.Sink.written l.sink) (g.K.Sink.faults l.fn.sink) (g.K.Sink.faults l.sink)
      (changes_of l.core.plan l.core.before l.core.world.state) (flat_map (change_of l.core.plan l.core.before l.core.world.state) (drop l.from (facts_of (counts_of l.core.plan))));
  within : l.from ≤ fact_total_of l.core.world.state;
  next : IsNextChange l.core.before l.core.world.state l.from l.next;
}

abbrev pub decreases-changes : goal.decreases-changes
decreases-changes g l = fact_total_of l.core.world.state - l.from
