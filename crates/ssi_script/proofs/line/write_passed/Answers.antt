use Rattle.ssi_base.proofs.Writing.{Written-past, Written-more, Writes-exit, Writes-last, Writes-short}
use Rattle.ssi_script.proofs.line.write_passed.Goals as goal

pub returns-in_err-write_telegram-2 : goal.returns-in_err-write_telegram-2
returns-in_err-write_telegram-2 g c =
    let first = Written-past c.in_ok-write_telegram.is c.branch-write_telegram.ensures c.write_telegram.ensures in
    let failed = c.from_residual-in_err-write_telegram-2.ensures.0 in
    Writes-short _ failed (Writes-exit c.in_err-write_telegram-2.is c.branch-write_telegram-2.ensures failed (Writes-last c.write_telegram-2.ensures first))

pub returns : goal.returns
returns g c =
    let first = Written-past c.in_ok-write_telegram.is c.branch-write_telegram.ensures c.write_telegram.ensures in
    let both = Written-more c.in_ok-write_telegram-2.is c.branch-write_telegram-2.ensures c.write_telegram-2.ensures first in
    Writes-last c.write_taken.ensures both
