use Rattle.std.proofs.Common.{◌∙◌, ap, subst, Err}
use Rattle.ssi_names.specs.declared.fault.FaultList.{FaultList}
use Rattle.ssi_names.specs.declared.fault.ResolveFault.{ResolveFault}
use Rattle.ssi_names.specs.Answers.{IsAnswer}
use Rattle.ssi_run.specs.declared.status.Status.TheVariants.{Faulty}
use Rattle.ssi_run.specs.Answers.{Script, ToEnd}
use Rattle.ssi_run.specs.FaultLines.{name_fault_lines}
use Rattle.ssi_run.proofs.Layers.{Tree, tree_of_faults, tree_of_plan}
use Rattle.ssi_run.proofs.Replying.{mapped, replies_alone}
use Rattle.ssi_run.proofs.input.run_tree.Goals as goal

pub returns-in-Ok-clause-answered : goal.returns-in-Ok-clause-answered
returns-in-Ok-clause-answered g c =
    let tokens = c.args.tokens in
    let is = rw c.text-input.ensures at c.in-Ok.ensures in
    mapped (Script tokens.text _ c.in-Ok.plan tokens.left tokens.end) (Tree tokens.text _ c.args.tree tokens.left tokens.end) (tree_of_plan is.0 is.1) c.run_plan.result c.run_plan.ensures.answered

pub returns-in-Err-Faults-clause-answered : goal.returns-in-Err-Faults-clause-answered
returns-in-Err-Faults-clause-answered g c =
    let tokens = c.args.tokens in
    let found = subst (λ (fault : ResolveFault). IsAnswer c.text-input.result.now c.args.tree (Err fault)) c.in-Err-Faults.field-0-is c.in-Err-Faults.ensures in
    let is = rw c.text-input.ensures at found in
    let list_is = c.as_slice.ensures.value ∙ ap (λ (list : FaultList). list.items.items) c.in-Err-Faults.faults-is ∙ is.1 in
    let written = rw c.text-input.ensures at c.write_name_faults-written.ensures in
    rw c.told.ensures (replies_alone (Tree tokens.text _ c.args.tree tokens.left tokens.end) _ Faulty ToEnd (name_fault_lines tokens.text c.as_slice.result.now)
    (tree_of_faults list_is is.0) c.write_name_faults-written.result written)
