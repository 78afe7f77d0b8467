use Rattle.ssi_base.proofs.Writing.{joins, Written-past, Writes-last}
use Rattle.ssi_run.proofs.fault_lines.write_depth_fault.Goals as goal

pub returns-in_err-write_fault_at : goal.returns-in_err-write_fault_at
returns-in_err-write_fault_at g c = search joins

pub returns : goal.returns
returns g c = Writes-last c.write_all.ensures.written (Written-past c.in_ok-write_fault_at.is c.branch-write_fault_at.ensures c.write_fault_at.ensures)
