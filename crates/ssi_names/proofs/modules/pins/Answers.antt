use Rattle.std.proofs.Common.{◌++◌, [], take, get_or, ap, ◌∙◌, arith}
use Rattle.std.proofs.lemmas.List.{take_all}
use Rattle.ssi_names.specs.Faults.{pin_faults}
use Rattle.ssi_names.specs.NameLists.{is_among}
use Rattle.ssi_names.specs.Occurrences.{in_order}
use Rattle.ssi_names.specs.Tables.{known_by}
use Rattle.ssi_names.specs.Texts.{characters, number}
use Rattle.ssi_names.proofs.Marks.{marked_next}
use Rattle.ssi_names.proofs.Orders.{next}
use Rattle.ssi_names.proofs.Pins.{no_spot, pin_is}
use Rattle.ssi_names.proofs.Sets.{names_more}
use Rattle.ssi_names.proofs.modules.pins.Goals as goal

pub loop-name-preserved : goal.loop-name-preserved
loop-name-preserved c =
    let text = c.args.text.now in
    let entries = c.args.entries.now in
    let i = c.loop-name.name-index in
    let within = c.loop-name-test.true in
    let so_far = c.loop-name.invariant in
    let one = pin_is (known_by text c.args.tables.now) c.args.kind c.args.count c.args.seen.now (take i entries) (get_or entries i (no_spot, no_spot)) c.loop-name.seen
    c.loop-name.used c.loop-name.faults.items c.pin_name.new.faults.items c.pin_number.new.faults.items c.requires so_far.seen so_far.used c.in_ok-pin_name.ensures.faults c.in_ok-pin_number.ensures.faults
    in
    record {
      faults = next (pin_faults (known_by text c.args.tables.now) c.args.kind c.args.count (λ name. is_among name c.args.seen.now)) entries i (no_spot, no_spot)
          c.args.faults.now.items c.loop-name.faults.items c.pin_number.new.faults.items within so_far.faults one;
      seen = names_more (λ e. characters text e.0) entries i (no_spot, no_spot) c.args.seen.now c.loop-name.seen c.pin_name.new.seen within so_far.seen c.in_ok-pin_name.ensures.seen;
      used = marked_next (λ e. number text e.1) entries i (no_spot, no_spot) 8 c.loop-name.used c.pin_number.new.used within (omega arith) so_far.used c.pin_number.ensures.used;
    }

pub returns-clause-faults : goal.returns-clause-faults
returns-clause-faults c =
    let text = c.args.text.now in
    c.loop-name.invariant.faults
    ∙ ap (λ done. c.args.faults.now.items ++ in_order (pin_faults (known_by text c.args.tables.now) c.args.kind c.args.count (λ name. is_among name c.args.seen.now)) [] done)
    (take_all c.loop-name.name-index c.args.entries.now c.loop-name-test.false)
