use Rattle.std.proofs.Common.{◌+◌, ◌*◌, length}
use Rattle.std.specs.Prelude.{reverse}
use Rattle.std.specs.List.{sum_by}
use Rattle.ssi_identities.specs.declared.rule.Body.{Body}
use Rattle.ssi_identities.specs.Allowed.{BodyScope}
use Rattle.ssi_identities.specs.DataSets.{counts_of}
use Rattle.ssi_identities.specs.States.{IsStateOf}
use Rattle.ssi_identities.specs.Steps.{effect_of}
use Rattle.ssi_eval.specs.Acting.{LeavesFrom}
use Rattle.ssi_eval.specs.BodyCodes.{IsBodyCode}
use Rattle.ssi_eval.specs.Frames.{bytes_left}
use Rattle.ssi_eval.proofs.body.run.Given as goal

-- the levels go on to the body's effect
abbrev pub invariant-run : goal.invariant-run
invariant-run l = record {
  state : IsStateOf (counts_of l.image) l.state;
  on : (scope : BodyScope) (body : Body) → IsBodyCode l.image scope body l.code → LeavesFrom l.image scope l.report l.items (reverse l.stack.items) l.state (effect_of l.image body l.fn.state l.report);
}

-- each turn reads some bytes or leaves a level
abbrev pub decreases-run : goal.decreases-run
decreases-run l = 2 * (length l.items + sum_by bytes_left l.stack.items) + length l.stack.items
