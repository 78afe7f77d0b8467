use Rattle.std.proofs.Common.{◌≡◌, arith}
use Rattle.ssi_run.proofs.Placed.{row_place}
use Rattle.ssi_run.proofs.exchange.place_with.Goals as goal

pub shelf_place-requires-clause-address : goal.shelf_place-requires-clause-address
shelf_place-requires-clause-address c =
    let there = row_place c.args.image.now c.args.address c.requires.0 c.counts-well.ensures.well c.requires.1 in
    (there.some, there.few)

pub shelf_place-requires-clause-kind : goal.shelf_place-requires-clause-kind
shelf_place-requires-clause-kind c =
    let there = row_place c.args.image.now c.args.address c.requires.0 c.counts-well.ensures.well c.requires.1 in
    let of_kind : c.kind.result ≡ c.requires.0.kind = grind arith in
    omega (arith, of_kind, there.kind_within)

pub returns-clause-address : goal.returns-clause-address
returns-clause-address c =
    let there = row_place c.args.image.now c.args.address c.requires.0 c.counts-well.ensures.well c.requires.1 in
    (there.some, there.few)

pub returns-clause-within : goal.returns-clause-within
returns-clause-within c =
    let there = row_place c.args.image.now c.args.address c.requires.0 c.counts-well.ensures.well c.requires.1 in
    let of_kind : c.kind.result ≡ c.requires.0.kind = grind arith in
    omega (arith, c.shelf_place.ensures, of_kind, there.few, there.kind_within)
