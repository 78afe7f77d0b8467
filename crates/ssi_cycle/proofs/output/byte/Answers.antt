use Rattle.std.proofs.Common.{◌≡◌, ◌+◌, ◌-◌, refl, ap, sym, ◌∙◌, arith}
use Rattle.ssi_image.specs.Places.{output_of}
use Rattle.ssi_cycle.specs.Outputs.{output_bit}
use Rattle.ssi_cycle.proofs.Bytes.{bit_next, byte_from, no_bit, next_within}
use Rattle.ssi_cycle.proofs.Modules.{row_has_eight}
use Rattle.ssi_cycle.proofs.output.byte.Goals as goal

pub loop-place-init : goal.loop-place-init
loop-place-init c = record {
  bits = λ row there. sym (no_bit c.args.image.now c.args.«module» row there (row_has_eight c.args.image.now c.args.«module» row c.requires.well there) c.args.state.now);
  within = omega arith;
}

pub loop-place-preserved : goal.loop-place-preserved
loop-place-preserved c = record {
  bits = λ row there.
      let plan = c.args.image.now in
      let bit = 8 - 1 - c.loop-place.place in
      let more : 8 - c.loop-place.place ≡ bit + 1 = omega (arith, c.loop-place-test.true) in
      let this : bit ≡ 8 - (c.loop-place.place + 1) = omega arith in
      bit_next plan c.args.«module» row there (row_has_eight plan c.args.«module» row c.requires.well there) c.args.state.now bit c.bit.result c.loop-place.byte (output_bit plan c.args.state.now (output_of plan c.args.«module» bit))
      (omega arith) refl c.bit.ensures (c.loop-place.invariant.bits row there ∙ ap (byte_from plan c.args.state.now row) more)
      ∙ ap (byte_from plan c.args.state.now row) this;
  within = next_within c.loop-place.place c.loop-place.byte c.bit.result (output_bit c.args.image.now c.args.state.now (output_of c.args.image.now c.args.«module» (8 - 1 - c.loop-place.place))) c.bit.ensures c.loop-place.invariant.within;
}
