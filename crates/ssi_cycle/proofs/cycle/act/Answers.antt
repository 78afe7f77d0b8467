use Rattle.std.proofs.Common.{subst, sym}
use Rattle.ssi_identities.specs.DataSets.{counts_of}
use Rattle.ssi_identities.specs.States.{IsStateOf}
use Rattle.ssi_cycle.specs.Exchanges.{deeds_of_arrival}
use Rattle.ssi_cycle.specs.Requests.{deeds_of_request, taken_of}
use Rattle.ssi_cycle.specs.Statements.{deeds_of_statements}
use Rattle.ssi_cycle.proofs.Changing.{deeds_lead}
use Rattle.ssi_cycle.proofs.Cycling.{parts_done, parts_keep}
use Rattle.ssi_cycle.proofs.cycle.act.Goals as goal

pub run_statements-stated-requires-clause-state : goal.run_statements-stated-requires-clause-state
run_statements-stated-requires-clause-state c =
    let plan = c.args.image.now in
    subst (IsStateOf (counts_of plan)) (sym c.take_arrival-reported.ensures.effect) ((deeds_lead (counts_of plan) plan c.args.state.now (deeds_of_arrival plan c.args.slot c.args.arrived)).keeps c.requires.state)

pub serve-request-requires-clause-state : goal.serve-request-requires-clause-state
serve-request-requires-clause-state c =
    let plan = c.args.image.now in
    let reported = subst (IsStateOf (counts_of plan)) (sym c.take_arrival-reported.ensures.effect) ((deeds_lead (counts_of plan) plan c.args.state.now (deeds_of_arrival plan c.args.slot c.args.arrived)).keeps c.requires.state) in
    subst (IsStateOf (counts_of plan)) (sym c.run_statements-stated.ensures.effect) ((deeds_lead (counts_of plan) plan c.take_arrival-reported.new.state (deeds_of_statements plan c.args.slot)).keeps reported)

pub returns-then-stated-clause-effect : goal.returns-then-stated-clause-effect
returns-then-stated-clause-effect c =
    let plan = c.args.image.now in
    parts_done plan (deeds_of_arrival plan c.args.slot c.args.arrived) (deeds_of_statements plan c.args.slot) (deeds_of_request plan (taken_of c.args.waiting.now.items)) c.args.state.now c.take_arrival-reported.new.state c.run_statements-stated.new.state
    c.serve-request.new.state c.take_arrival-reported.ensures.effect c.run_statements-stated.ensures.effect c.serve-request.ensures.effect

pub returns-then-stated-clause-whole : goal.returns-then-stated-clause-whole
returns-then-stated-clause-whole c =
    let plan = c.args.image.now in
    parts_keep plan (deeds_of_arrival plan c.args.slot c.args.arrived) (deeds_of_statements plan c.args.slot) (deeds_of_request plan (taken_of c.args.waiting.now.items)) c.args.state.now c.take_arrival-reported.new.state c.run_statements-stated.new.state
    c.serve-request.new.state c.take_arrival-reported.ensures.effect c.run_statements-stated.ensures.effect c.serve-request.ensures.effect (counts_of plan) c.requires.state

pub returns-else-stated-clause-whole : goal.returns-else-stated-clause-whole
returns-else-stated-clause-whole c =
    let plan = c.args.image.now in
    parts_keep plan (deeds_of_arrival plan c.args.slot c.args.arrived) (deeds_of_statements plan c.args.slot) (deeds_of_request plan (taken_of c.args.waiting.now.items)) c.args.state.now c.take_arrival-reported.new.state c.run_statements-stated.new.state
    c.serve-request.new.state c.take_arrival-reported.ensures.effect c.run_statements-stated.ensures.effect c.serve-request.ensures.effect (counts_of plan) c.requires.state
