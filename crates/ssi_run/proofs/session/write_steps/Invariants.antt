use Rattle.std.proofs.Common.{◌≡◌, ◌+◌, ◌<◌, ◌^◌, drop, map}
use Rattle.std.specs.Prelude.{vec_len}
use Rattle.ssi_script.specs.Meanings.{cycles_in}
use Rattle.ssi_script.specs.Sessions.{session_of}
use Rattle.ssi_script.specs.Traces.{steps_pieces}
use Rattle.ssi_run.specs.Courses.{session_at}
use Rattle.ssi_run.proofs.Pieces.{PiecesLeft}
use Rattle.ssi_run.proofs.session.write_steps.Given as goal

abbrev pub invariant-loop-step : goal.invariant-loop-step
invariant-loop-step g l = record {
  left : PiecesLeft (g.K.Sink.written l.fn.sink) (g.K.Sink.written l.sink) (g.K.Sink.faults l.fn.sink) (g.K.Sink.faults l.sink)
      (map (λ b. (goal.Trackside-dyn g (b.vtable, b.value)).state b.value) l.fn.shelf.items)
      (map (λ b. (goal.Trackside-dyn g (b.vtable, b.value)).state b.value) l.shelf.items)
      (steps_pieces l.steps (session_of l.fn.core.plan (map (λ b. (goal.Trackside-dyn g (b.vtable, b.value)).state b.value) l.fn.shelf.items)))
      (steps_pieces (drop l.step-index l.steps)
      (session_at l.core (map (λ b. (goal.Trackside-dyn g (b.vtable, b.value)).state b.value) l.shelf.items) l.course.marks l.course.number));
  fits : l.course.number + cycles_in (drop l.step-index l.steps) < 2 ^ 64;
  plan : l.core.plan ≡ l.fn.core.plan;
  full : vec_len l.shelf ≡ 189;
}
