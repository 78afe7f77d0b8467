use Rattle.std.proofs.Common.{◌≡◌, drop, nat_le}
use Rattle.ssi_identities.specs.declared.rule.CondItem.TheVariants.{Any}
use Rattle.ssi_identities.specs.Allowed.{cond_depth, item_depth}
use Rattle.ssi_identities.specs.Values.{cond_of}
use Rattle.ssi_identities.proofs.well_conditions.+levels.Given as goal

abbrev pub invariant-is_cond_shallow-loop-item : goal.invariant-is_cond_shallow-loop-item
invariant-is_cond_shallow-loop-item l = nat_le (cond_depth (cond_of (drop l.item-index l.item-items))) l.levels ≡ nat_le (cond_depth l.cond) l.levels

abbrev pub invariant-is_item_shallow-loop-cond : goal.invariant-is_item_shallow-loop-cond
invariant-is_item_shallow-loop-cond l = nat_le (item_depth (Any (drop l.cond-index l.cond-items))) l.levels ≡ nat_le (item_depth l.item) l.levels
