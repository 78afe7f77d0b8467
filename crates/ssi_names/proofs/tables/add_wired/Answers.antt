use Rattle.std.proofs.Common.{◌≡◌, ap, ◌∙◌}
use Rattle.ssi_terms.specs.Trees.{ModuleText}
use Rattle.ssi_names.proofs.Pins.{pins_more}
use Rattle.ssi_names.proofs.tables.add_wired.Goals as goal

pub loop-entry-preserved : goal.loop-entry-preserved
loop-entry-preserved c =
    let named = c.as_slice in
    let seen_as : ModuleText = record { address = c.entry.inside.address; kind = c.entry.inside.kind; pins = c.entry.inside.pins.items } in
    let the_same : seen_as ≡ c.entry-item.result = c.entry.view_is in
    pins_more c.args.text.now c.args.modules.now c.loop-entry.entry-index c.entry-item.result named.result.now c.args.names.now c.loop-entry.names c.add_pins.new.names c.loop-entry-test.true c.entry-item.is
    (named.ensures.value ∙ ap (λ (e : ModuleText). e.pins) the_same) c.loop-entry.invariant c.in_ok-add_pins.ensures
