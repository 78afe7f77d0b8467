use Rattle.ssi_identities.specs.declared.rule.Cond.{Cond}
use Rattle.ssi_identities.specs.Allowed.{CondScope}
use Rattle.ssi_eval.specs.CondCodes.{IsCondCode, reading_of}
use Rattle.ssi_eval.specs.Frames.{GoesOn, bytes_in}
use Rattle.ssi_eval.proofs.free.value.Given as goal

-- the condition's reading goes on
abbrev pub invariant-ask : goal.invariant-ask
invariant-ask l = (scope : CondScope) (cond : Cond) → IsCondCode l.image scope cond l.code → GoesOn (reading_of l.image scope cond l.state l.report l.fn.stack.items) l.stack.items l.level l.value

-- each question leaves fewer bytes
abbrev pub decreases-ask : goal.decreases-ask
decreases-ask l = bytes_in l.level l.stack.items
