use Rattle.std.proofs.Common.{append_assoc, refl}
use Rattle.std.proofs.lemmas.List.{append-nil}
use Rattle.ssi_base.proofs.Writing.{Written-past, Written-more, Writes-exit, Writes-last, Writes-short}
use Rattle.ssi_script.proofs.Shown.{unchanged_text}
use Rattle.ssi_script.proofs.line.write_cycle.Goals as goal

pub returns-then-end_idle_line : goal.returns-then-end_idle_line
returns-then-end_idle_line g c =
    let core = c.args.core.now in
    let idle = c.if-end_idle_line.ensures.idle refl in
    let passed = c.is_idle-is_idle.ensures.passed idle core.plan in
    let found = c.next_change-change in
    let changes = unchanged_text core.plan core.before core.world.state found.ensures.whole found.result found.ensures.change (c.is_idle-is_idle.ensures.changed idle) in
    rw (passed, changes, append-nil, append_assoc) (rw (c.as_slice.ensures.value, c.if-end_idle_line.ensures.line, c.decimal-line.ensures) at c.write_all.ensures.written)

pub returns-in_err-write_passed : goal.returns-in_err-write_passed
returns-in_err-write_passed g c =
    let number = Written-past c.in_ok-write_all.is c.branch-write_all.ensures (rw (c.as_slice-2.ensures.value, c.if-end_idle_line.ensures.line, c.decimal-line.ensures) at c.write_all-2.ensures.written) in
    let passed = rw c.image.ensures at c.write_passed.ensures in
    let failed = c.from_residual-in_err-write_passed.ensures.0 in
    Writes-short _ failed (Writes-short _ failed (Writes-exit c.in_err-write_passed.is c.branch-write_passed.ensures failed (Writes-last passed number)))

pub returns-in_err-write_changes : goal.returns-in_err-write_changes
returns-in_err-write_changes g c =
    let number = Written-past c.in_ok-write_all.is c.branch-write_all.ensures (rw (c.as_slice-2.ensures.value, c.if-end_idle_line.ensures.line, c.decimal-line.ensures) at c.write_all-2.ensures.written) in
    let passed = rw c.image.ensures at c.write_passed.ensures in
    let with_passed = Written-more c.in_ok-write_passed.is c.branch-write_passed.ensures passed number in
    let failed = c.from_residual-in_err-write_changes.ensures.0 in
    Writes-short _ failed (Writes-exit c.in_err-write_changes.is c.branch-write_changes.ensures failed (Writes-last c.write_changes.ensures with_passed))

pub returns : goal.returns
returns g c =
    let number = Written-past c.in_ok-write_all.is c.branch-write_all.ensures (rw (c.as_slice-2.ensures.value, c.if-end_idle_line.ensures.line, c.decimal-line.ensures) at c.write_all-2.ensures.written) in
    let passed = rw c.image.ensures at c.write_passed.ensures in
    let with_passed = Written-more c.in_ok-write_passed.is c.branch-write_passed.ensures passed number in
    let with_changes = Written-more c.in_ok-write_changes.is c.branch-write_changes.ensures c.write_changes.ensures with_passed in
    Writes-last c.write_all-3.ensures.written with_changes
