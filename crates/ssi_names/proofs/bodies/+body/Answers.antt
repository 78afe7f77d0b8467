use Rattle.std.proofs.Common.{List, ◌++◌, ap, sym, ◌∙◌}
use Rattle.std.specs.Option.{option_map}
use Rattle.ssi_names.specs.Bodies.{part_step, body_step, else_faults}
use Rattle.ssi_names.specs.declared.fault.Fault.{Fault}
use Rattle.ssi_names.specs.Scopes.{known, cond_faults, body_faults, part_faults}
use Rattle.ssi_names.proofs.BodyTrees.{tree_if_is}
use Rattle.ssi_names.proofs.Orders.{three_noted}
use Rattle.ssi_names.proofs.bodies.+body.Goals as goal

pub add_part-returns-in_ok-push-in-If-clause-faults : goal.add_part-returns-in_ok-push-in-If-clause-faults
add_part-returns-in_ok-push-in-If-clause-faults t c =
    let scope = c.args.scope.now in
    let old = c.args.faults.now.items in
    let part = c.in-If in
    three_noted old c.cond.new.faults.items c.body.new.faults.items c.otherwise.new.faults.items (cond_faults scope part.guard) (body_faults scope part.then_body)
    (else_faults (option_map (body_faults scope) part.else_body)) c.in_ok-cond-in-If.ensures.faults c.in_ok-body-in-If.ensures.faults c.in_ok-otherwise-in-If.ensures.faults
    ∙ ap (λ faults. old ++ faults) (sym (tree_if_is (List Fault) (List Fault) (part_step (known scope) scope.file) (body_step (known scope) scope.file) part.guard part.then_body part.else_body))
    ∙ ap (λ tree. old ++ part_faults scope tree) (sym part.is)
