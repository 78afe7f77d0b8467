use Rattle.std.proofs.Common.{◌++◌, None, take, ap, ◌∙◌, replicate, arith}
use Rattle.std.proofs.lemmas.Grind.{common_steps}
use Rattle.ssi_names.specs.Bodies.{cond_faults}
use Rattle.ssi_names.specs.Faults.{output_bit_faults}
use Rattle.ssi_names.specs.Scopes.{known, cond_row}
use Rattle.ssi_names.specs.Texts.{number}
use Rattle.ssi_names.proofs.Marks.{marked_entry}
use Rattle.ssi_names.proofs.Orders.{next_entry}
use Rattle.ssi_names.proofs.OutputBits.{bit_is}
use Rattle.ssi_names.proofs.Wires.{put_entry}
use Rattle.ssi_names.proofs.outputs.bits.Goals as goal

pub loop-number-preserved : goal.loop-number-preserved
loop-number-preserved c =
    let scope = c.args.scope.now in
    let text = scope.text.now in
    let d = known scope in
    let entries = c.args.entries.now in
    let i = c.loop-number.number-index in
    let entry = c.loop-number-item in
    let within = c.loop-number-test.true in
    let so_far = c.loop-number.invariant in
    record {
      faults = next_entry (output_bit_faults d) entries i entry.result c.args.faults.now.items c.loop-number.faults.items c.cond.new.faults.items within entry.is so_far.faults
          (bit_is d (take i entries) entry.result c.loop-number.used c.loop-number.faults.items c.pin_number.new.faults.items c.cond.new.faults.items so_far.used
          c.in_ok-pin_number.ensures.faults
          (c.in_ok-cond.ensures.faults ∙ ap (λ file. c.pin_number.new.faults.items ++ cond_faults d file entry.result.1) c.requires.file));
      used = marked_entry (λ e. number text e.0) entries i entry.result 8 c.loop-number.used c.pin_number.new.used within (omega arith) entry.is so_far.used c.pin_number.ensures.used;
      row = put_entry (λ e. number text e.0) (λ e. cond_row scope e.1) (replicate 8 None) entries i entry.result c.loop-number.row.items _ _ _ within (grind (arith, common_steps)) entry.is so_far.row
          c.small_number.ensures c.in_ok-cond.ensures.row c.put.ensures;
    }
