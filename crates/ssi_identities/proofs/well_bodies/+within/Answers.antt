use Rattle.std.proofs.Common.{sym, ◌∙◌, length}
use Rattle.std.specs.Prelude.{nat_le}
use Rattle.std.specs.List.{list_all}
use Rattle.std.proofs.lemmas.Bool.{and_right}
use Rattle.ssi_identities.specs.Allowed.{is_part_within}
use Rattle.ssi_identities.specs.Deciding.{body_scope_of}
use Rattle.ssi_identities.proofs.Allowed.{within_of_parts}
use Rattle.ssi_identities.proofs.Deciding.{and_passed, one_fails, all_passed, some_element}
use Rattle.ssi_identities.proofs.well_bodies.+within.Goals as goal

pub is_body_within-returns-then-not-is_part_within : goal.is_body_within-returns-then-not-is_part_within
is_body_within-returns-then-not-is_part_within t c =
    let scope = body_scope_of c.args.place.now in
    let items = c.args.body.now.items in
    let fails = one_fails (is_part_within scope) items c.as_slice-item-items.result.now c.loop-item.item-index c.loop-item.invariant c.item-item.result c.loop-item-test.true c.item-item.is (sym c.is_part_within.ensures ∙ c.if-not-is_part_within.true) in
    sym (within_of_parts scope items ∙ and_right (nat_le 1 (length items)) (list_all (is_part_within scope) items) fails)

pub is_body_within-returns : goal.is_body_within-returns
is_body_within-returns t c =
    let scope = body_scope_of c.args.place.now in
    let items = c.args.body.now.items in
    let all = all_passed (is_part_within scope) items c.as_slice-item-items.result.now c.loop-item.item-index c.loop-item.invariant c.loop-item-test.false in
    sym (within_of_parts scope items ∙ and_passed (nat_le 1 (length items)) (list_all (is_part_within scope) items) all ∙ sym (some_element c.is_empty.result items c.is_empty.ensures))
