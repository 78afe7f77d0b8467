use Rattle.std.proofs.Common.{◌≡◌, ◌+◌, ◌*◌, arith}
use Rattle.ssi_identities.proofs.Starts.{filled, start_is}
use Rattle.ssi_identities.proofs.state.start.Goals as goal

pub returns : goal.returns
returns c =
    let counts = c.args.counts.now in
    let before = c.from-first_track.result in
    let first_track : before ≡ 3 * counts.points + counts.signals = omega arith in
    let through : before + counts.tracks ≡ before + c.from.result = omega arith in
    let all : before + c.from.result + (2 * counts.routes + counts.subs + counts.flags) ≡ c.from-all.result = omega arith in
    let parts = filled _ _ _ _ _ _ _ _ _ _ counts.tracks (2 * counts.routes + counts.subs + counts.flags) c.in_ok-state.ensures.items c.in_ok-resize.ensures.items c.in_ok-resize-2.ensures.items
    c.in_ok-resize-3.ensures.items c.in_ok-state.ensures.len c.in_ok-resize.ensures.len c.in_ok-resize-2.ensures.len through all
    in
    rw (start_is counts, ← first_track) parts
