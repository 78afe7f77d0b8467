use Rattle.std.proofs.Common.{◌≤◌, List, length, map, ap, sym, ◌∙◌, arith}
use Rattle.std.specs.Prelude.{slice_get}
use Rattle.std.proofs.lemmas.List.{length-map}
use Rattle.ssi_image.specs.Packed.{Wiring, wiring_of}
use Rattle.ssi_image.proofs.Pins.{read_at, row_of, wires_whole}
use Rattle.ssi_image.proofs.tables.wires.Goals as goal

pub loop-number-preserved : goal.loop-number-preserved
loop-number-preserved c =
    let number = c.loop-number.number in
    let wiring = c.index-modules-number.result in
    record {
      long = c.note_module.ensures.same ∙ c.loop-number.invariant.long;
      wires = λ plan are.
          let there = row_of plan.modules number wiring (ap (λ (ms : List Wiring). slice_get ms number) (sym are) ∙ read_at c.args.modules.now number wiring c.loop-number-test.true c.index-modules-number.is) in
          c.note_module.ensures.wires plan there.0 there.1 there.2 (c.loop-number.invariant.wires plan are);
    }

pub returns-clause-wires : goal.returns-clause-wires
returns-clause-wires c = λ plan are.
    let past : length plan.modules ≤ c.loop-number.number = omega (arith, c.loop-number-test.false, ap length are, length-map plan.modules wiring_of) in
    wires_whole plan c.args.kind c.loop-number.number c.loop-number.table.items past (c.loop-number.invariant.wires plan are)
