use Rattle.std.proofs.Common.{◌≡◌, ◌++◌, ◌+◌, List, ℕ, drop, ◌∙◌}
use Rattle.std.specs.List.{flat_map}
use Rattle.ssi_image.proofs.Packing.{row_made, pieces_next, pieces_taken, pieces_left}
use Rattle.ssi_image.proofs.assembly.pack_all.Goals as goal

pub pack-requires : goal.pack-requires
pack-requires g c =
    let so_far = c.loop-row.invariant in (
      flat_map g.P.Packs.pieces_of (drop (c.loop-row.row-index + 1) c.args.rows.now) ++ so_far.left.0,
      so_far.left.1 ∙ pieces_next g.P.Packs.pieces_of c.args.rows.now c.loop-row.row-index c.row-item.result so_far.left.0 c.loop-row-test.true c.row-item.is,
    )

pub loop-row-preserved : goal.loop-row-preserved
loop-row-preserved g c =
    let so_far = c.loop-row.invariant in
    let rows = c.args.rows.now in
    let i = c.loop-row.row-index in
    let row = c.row-item in
    let within = c.loop-row-test.true in
    let others = flat_map g.P.Packs.pieces_of (drop (i + 1) rows) in
    let made = c.in_ok-pack.ensures in
    record {
      made = row_made g.P.Packs.packed rows i row.result _ c.loop-row.made.items _ within row.is so_far.made made.made c.in_ok-push.ensures.items;
      taken = pieces_taken g.P.Packs.pieces_of rows i row.result c.args.pieces.now c.loop-row.pieces c.pack.new.pieces within row.is so_far.taken made.taken;
      left = (
        so_far.left.0,
        pieces_left (g.P.Packs.pieces_of row.result) others c.loop-row.pieces c.pack.new.pieces so_far.left.0
            (so_far.left.1 ∙ pieces_next g.P.Packs.pieces_of rows i row.result so_far.left.0 within row.is) made.taken,
      );
    }
