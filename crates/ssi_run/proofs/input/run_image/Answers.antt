use Rattle.ssi_run.specs.Answers.{Script}
use Rattle.ssi_run.proofs.Replying.{mapped}
use Rattle.ssi_run.proofs.input.run_image.Goals as goal

pub returns-clause-answered : goal.returns-clause-answered
returns-clause-answered g c =
    let tokens = c.args.tokens in
    let script = c.in_ok-script.script in
    let reply = rw (c.in_ok-core.ensures, c.text-input.ensures) at c.run_steps.ensures.answered in
    mapped _ (Script tokens.text _ c.args.image tokens.left tokens.end)
    (λ answer is. record { steps = script.steps.items; fault = script.fault; script_is = c.in_ok-script.ensures.script; answer_is = is }) c.run_steps.result reply
