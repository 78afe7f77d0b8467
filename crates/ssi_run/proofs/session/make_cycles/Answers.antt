use Rattle.std.proofs.Common.{rules, ap, map, ◌∙◌, arith}
use Rattle.ssi_script.specs.Sessions.{Session}
use Rattle.ssi_run.specs.Courses.{session_at}
use Rattle.ssi_run.proofs.Cycles.{cycle_done, cycle_stopped}
use Rattle.ssi_run.proofs.session.make_cycles.Goals as goal

pub returns-in_err-make_cycle-clause-writes : goal.returns-in_err-make_cycle-clause-writes
returns-in_err-make_cycle-clause-writes g c =
    let shelf = map (λ b. (goal.Trackside-dyn g (b.vtable, b.value)).state b.value) c.loop-cycle.shelf.items in
    let session = session_at c.loop-cycle.core shelf c.loop-cycle.course.marks c.loop-cycle.course.number in
    cycle_stopped session _ c.args.count c.loop-cycle._cycle (omega arith) c.make_cycle.ensures.after c.loop-cycle.invariant.left
    (search rules) c.from_residual.ensures.0 c.make_cycle.ensures.writes

pub loop-cycle-preserved : goal.loop-cycle-preserved
loop-cycle-preserved g c =
    let shelf = map (λ b. (goal.Trackside-dyn g (b.vtable, b.value)).state b.value) c.loop-cycle.shelf.items in
    let session = session_at c.loop-cycle.core shelf c.loop-cycle.course.marks c.loop-cycle.course.number in
    let after = c.make_cycle.ensures.after in
    let number = ap (λ (session : Session). session.number) after in
    record {
      left = cycle_done session _ c.args.count c.loop-cycle._cycle (omega arith) after c.loop-cycle.invariant.left
          c.in_ok-make_cycle.is c.branch-make_cycle.ensures c.make_cycle.ensures.writes;
      number = omega (arith, number, c.loop-cycle.invariant.number);
      plan = ap (λ (session : Session). session.core.plan) after ∙ c.loop-cycle.invariant.plan;
      length = c.make_cycle.ensures.length ∙ c.loop-cycle.invariant.length;
    }
