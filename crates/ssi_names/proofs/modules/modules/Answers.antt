use Rattle.std.proofs.Common.{◌≡◌, ◌++◌, [], true, min, refl, ap, sym, ◌∙◌, take, arith}
use Rattle.std.proofs.lemmas.List.{append-nil}
use Rattle.std.specs.Prelude.{slice_set}
use Rattle.ssi_identities.specs.Wells.{wired_kind, pin_count}
use Rattle.ssi_terms.specs.Trees.{ModuleText}
use Rattle.ssi_names.specs.Faults.{module_faults}
use Rattle.ssi_names.specs.Tables.{known_by}
use Rattle.ssi_names.specs.Texts.{number}
use Rattle.ssi_names.specs.Words.{module_kind_of}
use Rattle.ssi_names.proofs.Marks.{marked_entry, no_marks}
use Rattle.ssi_names.proofs.Orders.{next_entry}
use Rattle.ssi_names.proofs.Pins.{module_is, pins_more}
use Rattle.ssi_names.proofs.modules.modules.Goals as goal

pub loop-entry-init : goal.loop-entry-init
loop-entry-init c = record {
  faults = sym (append-nil c.args.faults.now.items);
  seen = c.new-seen.ensures;
  used = no_marks 64 _ refl;
}

pub loop-entry-preserved : goal.loop-entry-preserved
loop-entry-preserved c =
    let text = c.args.text.now in
    let known = known_by text c.args.tables.now in
    let entries = c.args.entries.now in
    let i = c.loop-entry.entry-index in
    let within = c.loop-entry-test.true in
    let so_far = c.loop-entry.invariant in
    let entry = c.entry-item.result in
    let is = c.entry-item.is in
    let shape = c.pins_by_kind-kind in
    let number_of = c.module_kind.ensures ∙ ap module_kind_of c.characters.ensures.value in
    let named = c.as_slice-named in
    let seen_as : ModuleText = record { address = c.entry.inside.address; kind = c.entry.inside.kind; pins = c.entry.inside.pins.items } in
    let the_same : seen_as ≡ entry = c.entry.view_is in
    let one = module_is known (take i entries) seen_as shape.result.0 shape.result.1 c.loop-entry.seen c.loop-entry.used named.result.now
    c.loop-entry.faults.items c.address.new.faults.items c.pins.new.faults.items so_far.seen so_far.used (shape.ensures.kind ∙ ap wired_kind number_of) (shape.ensures.count ∙ ap pin_count number_of)
    named.ensures.value c.in_ok-address.ensures.faults c.in_ok-pins.ensures.faults
    in
    record {
      faults = next_entry (module_faults known) entries i entry c.args.faults.now.items c.loop-entry.faults.items c.pins.new.faults.items within is
          so_far.faults (one ∙ ap (λ (e : ModuleText). c.loop-entry.faults.items ++ module_faults known (take i entries) e) the_same);
      seen = pins_more text entries i entry named.result.now [] c.loop-entry.seen c.pins.new.seen within is (named.ensures.value ∙ ap (λ (e : ModuleText). e.pins) the_same)
          so_far.seen c.in_ok-pins.ensures.seen;
      used = marked_entry (λ e. number text e.address) entries i entry 64 c.loop-entry.used c.address.new.used within (omega arith) is so_far.used
          (c.address.ensures.used ∙ ap (λ (e : ModuleText). slice_set c.loop-entry.used (min (number text e.address) 255) true) the_same);
    }
