use Rattle.ssi_base.proofs.Writing.{joins, Written-past, Writes-last}
use Rattle.ssi_script.proofs.line.write_full.Goals as goal

pub returns-in_err-write_two : goal.returns-in_err-write_two
returns-in_err-write_two g c =
    let first = rw (c.as_slice.ensures.value, c.decimal.ensures, c.from.ensures) at c.write_two.ensures in
    search joins

pub returns : goal.returns
returns g c =
    let first = rw (c.as_slice.ensures.value, c.decimal.ensures, c.from.ensures) at c.write_two.ensures in
    let second = rw c.name.ensures.name at c.write_three.ensures in
    Writes-last second (Written-past c.in_ok-write_two.is c.branch-write_two.ensures first)
