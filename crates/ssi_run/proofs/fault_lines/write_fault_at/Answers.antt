use Rattle.ssi_base.proofs.Writing.{joins, Written-past, Writes-last}
use Rattle.ssi_run.proofs.fault_lines.write_fault_at.Goals as goal

pub returns-in_err-write_number : goal.returns-in_err-write_number
returns-in_err-write_number g c = search joins

pub returns : goal.returns
returns g c = Writes-last c.write_number-2.ensures (Written-past c.in_ok-write_number.is c.branch-write_number.ensures c.write_number.ensures)
