use Rattle.std.proofs.Common.{arith}
use Rattle.ssi_run.proofs.Placed.{kind_place}
use Rattle.ssi_run.proofs.session.happen_at.Goals as goal

pub shelf_place-requires-clause-address : goal.shelf_place-requires-clause-address
shelf_place-requires-clause-address g c =
    let there = kind_place c.args.image.now c.args.address c.args.kind c.counts-well.ensures.well c.requires.there in
    (there.some, there.few)

pub shelf_place-requires-clause-kind : goal.shelf_place-requires-clause-kind
shelf_place-requires-clause-kind g c = (kind_place c.args.image.now c.args.address c.args.kind c.counts-well.ensures.well c.requires.there).kind_within

pub event_at-requires : goal.event_at-requires
event_at-requires g c =
    let there = kind_place c.args.image.now c.args.address c.args.kind c.counts-well.ensures.well c.requires.there in
    omega (arith, c.shelf_place.ensures, c.requires.full, there.few, there.kind_within)
