use Rattle.std.proofs.Common.{sym, ◌∙◌}
use Rattle.ssi_cycle.proofs.Serving.{request_acts}
use Rattle.ssi_cycle.proofs.requests.serve.Goals as goal

pub returns-clause-effect : goal.returns-clause-effect
returns-clause-effect c =
    request_acts c.args.image.now c.args.waiting.now.items c.in_ok-taken.taken c.requires.there (sym c.take_oldest.ensures.taken ∙ c.in_ok-taken.was) c.args.state.now c.run_body.new.state c.run_body.ensures
