use Rattle.std.proofs.Common.{rules, arith}
use Rattle.ssi_base.proofs.Writing.{Written-past}
use Rattle.ssi_run.proofs.FaultTexts.{next_line, no_line}
use Rattle.ssi_script.proofs.Rest.{less_left, none_left, stopped}
use Rattle.ssi_run.proofs.fault_lines.write_name_faults.Goals as goal

pub returns-in_err-write_name_fault : goal.returns-in_err-write_name_fault
returns-in_err-write_name_fault g c =
    let next = next_line c.args.text.now c.args.faults.now c.loop-fault.fault-index (omega arith) in
    stopped _ (rw next at c.loop-fault.invariant) (search rules) c.from_residual.ensures.0 c.write_name_fault.ensures

pub loop-fault-preserved : goal.loop-fault-preserved
loop-fault-preserved g c =
    let next = next_line c.args.text.now c.args.faults.now c.loop-fault.fault-index (omega arith) in
    less_left (rw next at c.loop-fault.invariant) (Written-past c.in_ok-write_name_fault.is c.branch-write_name_fault.ensures c.write_name_fault.ensures)

pub returns : goal.returns
returns g c = none_left (rw (no_line c.args.text.now c.args.faults.now c.loop-fault.fault-index (omega arith)) at c.loop-fault.invariant)
