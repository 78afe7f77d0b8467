use Rattle.std.proofs.Common.{map, rules}
use Rattle.ssi_script.specs.Sessions.{session_of}
use Rattle.ssi_run.proofs.Replying.{replies_bad, replies_done, replies_stopped}
use Rattle.ssi_run.proofs.input.run_steps.Goals as goal

pub returns-in_err-write_steps-clause-answered : goal.returns-in_err-write_steps-clause-answered
returns-in_err-write_steps-clause-answered g c =
    let steps = rw c.as_slice.ensures.value at c.write_steps.ensures in
    replies_stopped c.args.input.now c.args.script.now.steps.items (session_of c.args.core.now.plan (map (λ b. (goal.Trackside-dyn g (b.vtable, b.value)).state b.value) c.args.shelf.now.items)) c.args.script.now.fault (search rules) c.from_residual.ensures.1 steps

pub returns-in-None-clause-answered : goal.returns-in-None-clause-answered
returns-in-None-clause-answered g c =
    let steps = rw c.as_slice.ensures.value at c.write_steps.ensures in
    rw c.in-None.is (replies_done c.args.input.now c.args.script.now.steps.items (session_of c.args.core.now.plan (map (λ b. (goal.Trackside-dyn g (b.vtable, b.value)).state b.value) c.args.shelf.now.items)) c.in_ok-write_steps.is c.branch-write_steps.ensures steps)

pub returns-in-Some-clause-answered : goal.returns-in-Some-clause-answered
returns-in-Some-clause-answered g c =
    let steps = rw c.as_slice.ensures.value at c.write_steps.ensures in
    rw (c.told.ensures, c.in-Some.is)
    (replies_bad c.args.input.now c.args.script.now.steps.items (session_of c.args.core.now.plan (map (λ b. (goal.Trackside-dyn g (b.vtable, b.value)).state b.value) c.args.shelf.now.items)) c.in-Some.fault c.in_ok-write_steps.is c.branch-write_steps.ensures steps c.write_script_fault.result c.write_script_fault.ensures)
