use Rattle.ssi_base.proofs.Writing.{joins, Written-more, Written-past, Writes-last}
use Rattle.ssi_run.proofs.fault_lines.write_script_fault.Goals as goal

pub returns-in_err-write_fault_at : goal.returns-in_err-write_fault_at
returns-in_err-write_fault_at g c = search joins

pub returns-in_err-write_code : goal.returns-in_err-write_code
returns-in_err-write_code g c = search joins

pub returns : goal.returns
returns g c =
    let first = Written-past c.in_ok-write_fault_at.is c.branch-write_fault_at.ensures c.write_fault_at.ensures in
    Writes-last c.write_faulty_token.ensures (Written-more c.in_ok-write_code.is c.branch-write_code.ensures c.write_code.ensures first)
