use Rattle.std.proofs.Common.{ap, sym, ◌∙◌, length}
use Rattle.std.specs.Prelude.{nat_le}
use Rattle.std.specs.List.{list_all}
use Rattle.std.proofs.lemmas.Bool.{and_right}
use Rattle.ssi_identities.specs.Allowed.{is_item_within, is_within}
use Rattle.ssi_identities.specs.Deciding.{cond_scope_of}
use Rattle.ssi_identities.proofs.Allowed.{within_of_items, within_of_group}
use Rattle.ssi_identities.proofs.Deciding.{and_passed, one_fails, all_passed, some_element}
use Rattle.ssi_identities.proofs.well_conditions.+within.Goals as goal

pub is_cond_within-returns-then-not-is_item_within : goal.is_cond_within-returns-then-not-is_item_within
is_cond_within-returns-then-not-is_item_within t c =
    let scope = cond_scope_of c.args.place.now in
    let items = c.args.cond.now.items in
    let fails = one_fails (is_item_within scope) items c.as_slice-item-items.result.now c.loop-item.item-index c.loop-item.invariant c.item-item.result c.loop-item-test.true c.item-item.is (sym c.is_item_within.ensures ∙ c.if-not-is_item_within.true) in
    sym (within_of_items scope items ∙ and_right (nat_le 1 (length items)) (list_all (is_item_within scope) items) fails)

pub is_cond_within-returns : goal.is_cond_within-returns
is_cond_within-returns t c =
    let scope = cond_scope_of c.args.place.now in
    let items = c.args.cond.now.items in
    let all = all_passed (is_item_within scope) items c.as_slice-item-items.result.now c.loop-item.item-index c.loop-item.invariant c.loop-item-test.false in
    let some = some_element c.is_empty.result items c.is_empty.ensures in
    sym (within_of_items scope items ∙ and_passed (nat_le 1 (length items)) (list_all (is_item_within scope) items) all ∙ sym some)

pub is_item_within-returns-then-not-is_cond_within : goal.is_item_within-returns-then-not-is_cond_within
is_item_within-returns-then-not-is_cond_within t c =
    let scope = cond_scope_of c.args.place.now in
    let conds = c.in-Any.alternatives in
    let fails = one_fails (is_within scope) conds c.as_slice-cond-items.result.now c.loop-cond.cond-index c.loop-cond.invariant c.cond-item.result c.loop-cond-test.true c.cond-item.is (sym c.is_cond_within.ensures ∙ c.if-not-is_cond_within.true) in
    sym (ap (is_item_within scope) c.in-Any.is ∙ within_of_group scope conds ∙ and_right (nat_le 2 (length conds)) (list_all (is_within scope) conds) fails)

pub is_item_within-returns-after-loop-cond : goal.is_item_within-returns-after-loop-cond
is_item_within-returns-after-loop-cond t c =
    let scope = cond_scope_of c.args.place.now in
    let conds = c.in-Any.alternatives in
    let all = all_passed (is_within scope) conds c.as_slice-cond-items.result.now c.loop-cond.cond-index c.loop-cond.invariant c.loop-cond-test.false in
    ap (nat_le 2) c.len.ensures ∙ sym (ap (is_item_within scope) c.in-Any.is ∙ within_of_group scope conds ∙ and_passed (nat_le 2 (length conds)) (list_all (is_within scope) conds) all)
