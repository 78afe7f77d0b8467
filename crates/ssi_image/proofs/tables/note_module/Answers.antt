use Rattle.std.proofs.Common.{◌≡◌, arith, ℕ, List, Option, length, ap, sym, subst, ◌∙◌}
use Rattle.std.specs.Prelude.{slice_get}
use Rattle.std.proofs.lemmas.Bool.Decides.{nat_tests}
use Rattle.std.proofs.lemmas.Grind.{common_steps}
use Rattle.ssi_image.specs.Packed.{Wiring}
use Rattle.ssi_image.proofs.Pins.{noted_length, next_pin, read_at}
use Rattle.ssi_image.proofs.tables.note_module.Goals as goal

pub loop-pin-preserved : goal.loop-pin-preserved
loop-pin-preserved c =
    let so_far = c.loop-pin.invariant in
    let row = c.args.row.now in
    let pins : c.deref-wired-items.result.now ≡ row.pins = c.deref-wired-items.ensures.value ∙ ap (λ (r : Wiring). r.pins) c.row.view_is in
    let own : row.kind ≡ c.args.kind = let k = ap (λ (r : Wiring). r.kind) c.row.view_is in grind (arith, nat_tests, common_steps) in
    record {
      same = ap length c.note_wire.ensures ∙ noted_length c.loop-pin.table.items _ (c.args.number, c.loop-pin.pin) ∙ so_far.same;
      wires = λ plan wired found is before.
          next_pin plan c.args.kind c.args.number wired found c.loop-pin.pin _ c.loop-pin.table.items c.note_wire.new.table.items (ap (λ (r : Wiring). r.kind) is ∙ own)
          (ap (λ (r : Wiring). slice_get r.pins c.loop-pin.pin) is ∙ ap (λ (xs : List (Option ℕ)). slice_get xs c.loop-pin.pin) (sym pins) ∙ read_at c.deref-wired-items.result.now c.loop-pin.pin _ c.loop-pin-test.true (grind (arith, common_steps))) c.note_wire.ensures (so_far.wires plan wired found is before);
    }
