use Rattle.std.proofs.Common.{◌≡◌, drop}
use Rattle.std.specs.List.{list_all}
use Rattle.ssi_identities.specs.Allowed.{is_item_within, is_within}
use Rattle.ssi_identities.specs.Deciding.{cond_scope_of}
use Rattle.ssi_identities.proofs.well_conditions.+within.Given as goal

abbrev pub invariant-is_cond_within-loop-item : goal.invariant-is_cond_within-loop-item
invariant-is_cond_within-loop-item l = let within = is_item_within (cond_scope_of l.place) in list_all within (drop l.item-index l.item-items) ≡ list_all within l.cond.items

abbrev pub invariant-is_item_within-loop-cond : goal.invariant-is_item_within-loop-cond
invariant-is_item_within-loop-cond l = let within = is_within (cond_scope_of l.place) in list_all within (drop l.cond-index l.cond-items) ≡ list_all within l.alternatives
