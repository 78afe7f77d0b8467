use Rattle.ssi_base.proofs.Writing.{joins, Written-past, Writes-last}
use Rattle.ssi_script.proofs.changes.write_fact.Goals as goal

pub returns-in_err-write_two : goal.returns-in_err-write_two
returns-in_err-write_two g c =
    let first = rw (c.name.ensures.name, c.identity.ensures) at c.write_two.ensures in
    search joins

pub returns : goal.returns
returns g c =
    let first = rw (c.name.ensures.name, c.identity.ensures) at c.write_two.ensures in
    let second = rw c.word.ensures at c.write_two-2.ensures in
    Writes-last second (Written-past c.in_ok-write_two.is c.branch-write_two.ensures first)
