use Rattle.std.proofs.Common.{map}
use Rattle.ssi_run.specs.Courses.{session_at}
use Rattle.ssi_run.proofs.Cycles.{cycle_made, line_made}
use Rattle.ssi_run.proofs.Pieces.{written_as}
use Rattle.ssi_run.proofs.session.make_cycle.Goals as goal

pub returns-clause-after : goal.returns-clause-after
returns-clause-after g c =
    let shelf = map (λ b. (goal.Trackside-dyn g (b.vtable, b.value)).state b.value) c.args.shelf.now.items in
    let session = session_at c.args.core.now shelf c.args.course.now.marks c.args.course.now.number in
    cycle_made session _ _ (c.make_exchange-passed.ensures.passed c.args.course.now.number) c.minor_cycle-did.ensures.event

pub returns-clause-writes : goal.returns-clause-writes
returns-clause-writes g c =
    let shelf = map (λ b. (goal.Trackside-dyn g (b.vtable, b.value)).state b.value) c.args.shelf.now.items in
    let session = session_at c.args.core.now shelf c.args.course.now.marks c.args.course.now.number in
    let passed = c.make_exchange-passed.ensures.passed c.args.course.now.number in
    written_as (line_made session _ _ passed c.minor_cycle-did.ensures.event _ c.minor_cycle-did.ensures.taken) c.write_cycle.ensures
