use Rattle.std.proofs.Common.{◌≡◌, []}
use Rattle.ssi_identities.specs.DataSets.{counts_of}
use Rattle.ssi_identities.specs.States.{IsStateOf}
use Rattle.ssi_cycle.specs.Deeds.{after_deeds}
use Rattle.ssi_cycle.proofs.Slots.{deeds_between}
use Rattle.ssi_cycle.proofs.statements.act_in_turn.Given as goal

abbrev pub invariant-loop-number : goal.invariant-loop-number
invariant-loop-number l = record {
  left : after_deeds l.image l.state (deeds_between l.image.statements l.number l.end) ≡ after_deeds l.image l.fn.state (deeds_between l.image.statements l.first l.end);
  state : IsStateOf (counts_of l.image) l.state;
  empty : l.stack.items ≡ [];
}
