use Rattle.std.proofs.Common.{◌≡◌, drop}
use Rattle.std.specs.List.{list_all}
use Rattle.ssi_identities.specs.Allowed.{is_part_within}
use Rattle.ssi_identities.specs.Deciding.{body_scope_of}
use Rattle.ssi_identities.proofs.well_bodies.+within.Given as goal

abbrev pub invariant-is_body_within-loop-item : goal.invariant-is_body_within-loop-item
invariant-is_body_within-loop-item l = let within = is_part_within (body_scope_of l.place) in list_all within (drop l.item-index l.item-items) ≡ list_all within l.body.items
