use Rattle.std.proofs.Common.{◌≡◌, ◌+◌, ◌-◌, map}
use Rattle.std.specs.Prelude.{vec_len}
use Rattle.ssi_run.specs.Courses.{session_at}
use Rattle.ssi_run.proofs.Cycles.{CyclesLeft}
use Rattle.ssi_run.proofs.session.make_cycles.Given as goal

abbrev pub invariant-loop-cycle : goal.invariant-loop-cycle
invariant-loop-cycle g l = record {
  left : CyclesLeft (g.K.Sink.written l.fn.sink) (g.K.Sink.written l.sink) (g.K.Sink.faults l.fn.sink) (g.K.Sink.faults l.sink)
      (session_at l.fn.core (map (λ b. (goal.Trackside-dyn g (b.vtable, b.value)).state b.value) l.fn.shelf.items) l.fn.course.marks l.fn.course.number)
      (session_at l.core (map (λ b. (goal.Trackside-dyn g (b.vtable, b.value)).state b.value) l.shelf.items) l.course.marks l.course.number)
      l.count (l.count - l._cycle);
  number : l.course.number ≡ l.fn.course.number + l._cycle;
  plan : l.core.plan ≡ l.fn.core.plan;
  length : vec_len l.shelf ≡ vec_len l.fn.shelf;
}
