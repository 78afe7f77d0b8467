use Rattle.std.proofs.Common.{◌≡◌, drop, nat_le}
use Rattle.ssi_identities.specs.Allowed.{body_depth}
use Rattle.ssi_identities.specs.Steps.{body_of}
use Rattle.ssi_identities.proofs.well_bodies.+levels.Given as goal

abbrev pub invariant-is_body_shallow-loop-item : goal.invariant-is_body_shallow-loop-item
invariant-is_body_shallow-loop-item l = nat_le (body_depth (body_of (drop l.item-index l.item-items))) l.levels ≡ nat_le (body_depth l.body) l.levels
