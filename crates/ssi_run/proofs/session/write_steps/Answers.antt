use Rattle.std.proofs.Common.{rules, ◌≡◌, ◌<◌, length, map, refl, sym, ◌∙◌, arith}
use Rattle.std.proofs.lemmas.List.{length-map}
use Rattle.ssi_script.specs.declared.step.ScriptStep.TheVariants.{Panel}
use Rattle.ssi_run.specs.Courses.{session_at}
use Rattle.ssi_run.proofs.Pieces.{fewer_pieces_left, passed_past, pieces_stop}
use Rattle.ssi_run.proofs.StepsLeft.{all_steps_left, pieces_from, cycles_from}
use Rattle.ssi_run.proofs.session.write_steps.Goals as goal

pub loop-step-init : goal.loop-step-init
loop-step-init g c =
    let full : length c.args.shelf.now.items ≡ 189 = sym (length-map _ _) ∙ c.requires.full in
    record {
      left = all_steps_left _ _ _ c.args.steps.now _ c.args.core.now c.new.result c.requires.begun c.new.ensures;
      fits = omega (arith, c.requires.within);
      plan = refl;
      full = search rules;
    }

pub returns-in_err-write_step : goal.returns-in_err-write_step
returns-in_err-write_step g c =
    let shelf = map (λ b. (goal.Trackside-dyn g (b.vtable, b.value)).state b.value) c.loop-step.shelf.items in
    let session = session_at c.loop-step.core shelf c.loop-step.course.marks c.loop-step.course.number in
    let next = pieces_from c.args.steps.now c.loop-step.step-index (Panel 0 0) (omega arith) session in
    pieces_stop _ (rw next at c.loop-step.invariant.left) (search rules) c.from_residual.ensures.0 c.write_step.ensures.writes

pub loop-step-preserved : goal.loop-step-preserved
loop-step-preserved g c =
    let within : c.loop-step.step-index < length c.args.steps.now = omega arith in
    let shelf = map (λ b. (goal.Trackside-dyn g (b.vtable, b.value)).state b.value) c.loop-step.shelf.items in
    let session = session_at c.loop-step.core shelf c.loop-step.course.marks c.loop-step.course.number in
    let next = pieces_from c.args.steps.now c.loop-step.step-index (Panel 0 0) within session in
    let left = rw (next, ← c.in_ok-write_step.ensures.after) at c.loop-step.invariant.left in
    record {
      left = fewer_pieces_left left (passed_past c.in_ok-write_step.is c.branch-write_step.ensures c.write_step.ensures.writes);
      fits = omega (arith, c.in_ok-write_step.ensures.number, cycles_from c.args.steps.now c.loop-step.step-index (Panel 0 0) within, c.loop-step.invariant.fits);
      plan = c.write_step.ensures.plan ∙ c.loop-step.invariant.plan;
      full = c.write_step.ensures.length ∙ c.loop-step.invariant.full;
    }
