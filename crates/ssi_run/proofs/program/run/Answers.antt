use Rattle.std.proofs.Common.{Err, ap, inl, inr, refl, ◌∙◌}
use Rattle.ssi_run.proofs.Ending.{ended_input, ended_large, ended_starved, ended_unread}
use Rattle.ssi_run.proofs.program.run.Goals as goal

pub returns-in-Ok-clause-ended : goal.returns-in-Ok-clause-ended
returns-in-Ok-clause-ended g c = ended_input _ c.in-Ok.input.items c.in-Ok.ensures.ok c.run_input.result (rw c.as_slice.ensures.value at c.run_input.ensures.answered)

pub returns-in-Err-TooLarge-clause-ended : goal.returns-in-Err-TooLarge-clause-ended
returns-in-Err-TooLarge-clause-ended g c =
    let past = c.read_all.ensures.too_large (c.in-Err-TooLarge.is ∙ ap Err c.in-Err-TooLarge.field-0-is) in
    rw c.told.ensures (ended_large _ past c.write_all.result c.write_all.ensures.written refl)

pub returns-in-Err-Fault-clause-ended : goal.returns-in-Err-Fault-clause-ended
returns-in-Err-Fault-clause-ended g c =
    let is = c.in-Err-Fault.is ∙ ap Err c.in-Err-Fault.field-0-is in
    ended_unread _ (c.read_all.ensures.fault is) (c.read_all.ensures.within (inl is)) refl refl

pub returns-in-Err-Memory-clause-ended : goal.returns-in-Err-Memory-clause-ended
returns-in-Err-Memory-clause-ended g c =
    let is = c.in-Err-Memory.is ∙ ap Err c.in-Err-Memory.field-0-is in
    ended_starved _ (c.read_all.ensures.within (inr is)) refl refl
