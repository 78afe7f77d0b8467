use Rattle.std.proofs.Common.{arith}
use Rattle.std.proofs.lemmas.Grind.{common_steps}
use Rattle.ssi_base.proofs.Writing.{Appends-next}
use Rattle.ssi_base.proofs.output.write_all.Goals as goal

pub loop-done-preserved : goal.loop-done-preserved
loop-done-preserved g c = record {
  appended = Appends-next _ _ _ _ _ _ _ (grind (arith, common_steps)) c.loop-done.invariant.appended c.in_ok-done.ensures.bytes;
  within = grind (arith, common_steps, c.in_ok-done.ensures.bound);
  goes_on = grind arith;
  empty = λ none. absurd (grind (arith, common_steps));
}
