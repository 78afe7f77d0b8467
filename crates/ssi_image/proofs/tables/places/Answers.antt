use Rattle.std.proofs.Common.{◌≡◌, ◌<◌, ℕ, Some, None, ap, sym, subst, take, length, ◌∙◌}
use Rattle.std.specs.Prelude.{get_or, slice_set, unwrap_or}
use Rattle.std.proofs.lemmas.List.{length-set, take_all}
use Rattle.ssi_image.specs.Packed.{Wiring}
use Rattle.ssi_image.proofs.Tabling.{places_more, places_of}
use Rattle.ssi_image.proofs.tables.places.Goals as goal

pub loop-number-preserved : goal.loop-number-preserved
loop-number-preserved c =
    let so_far = c.loop-number.invariant in
    let row = c.index-modules-number.result in
    let table = c.loop-number.table.items in
    let i = c.loop-number.number in
    let within = c.loop-number-test.true in
    let address : c.row.inside.address ≡ row.address = ap (λ (r : Wiring). r.address) c.row.view_is in
    let noted : c.note_place.new.table.items ≡ slice_set table row.address (Some (unwrap_or (get_or table row.address None) i)) =
    c.note_place.ensures ∙ ap (λ (a : ℕ). slice_set table a (Some (unwrap_or (get_or table a None) i))) address
    in
    let small : row.address < 64 = subst (λ (r : Wiring). r.address < 64) (sym c.index-modules-number.is) (c.requires.small i row within) in
    record {
      long = ap length noted ∙ length-set table row.address _ ∙ so_far.long;
      places = places_more c.args.modules.now i row table c.note_place.new.table.items within c.index-modules-number.is so_far.long small noted so_far.places;
    }

pub returns-clause-places : goal.returns-clause-places
returns-clause-places c = λ plan are.
    places_of plan c.args.modules.now (take c.loop-number.number c.args.modules.now) c.loop-number.table.items are (take_all c.loop-number.number c.args.modules.now c.loop-number-test.false) c.loop-number.invariant.places
