use Rattle.std.proofs.Common.{sym, ◌∙◌}
use Rattle.ssi_identities.proofs.well.has_well_wiring.Goals as goal
use Rattle.ssi_identities.proofs.well.has_well_wiring.Goals.{then-are_well_modules, else-are_well_modules}

pub returns-then-do_addresses_differ : goal.returns-then-do_addresses_differ
returns-then-do_addresses_differ c = elim c.if-are_well_modules.branch [
  | then-are_well_modules w ↦ (
    λ wired. record {
      modules = c.are_well_modules.ensures.0 w.if-are_well_modules.true;
      addresses = w.do_addresses_differ.ensures.0 (sym w.value-is ∙ c.if-do_addresses_differ.true);
      wired = c.are_all_wired_once.ensures.0 wired;
    },
    λ well. c.are_all_wired_once.ensures.1 well.wired,
  )
  | else-are_well_modules w ↦ absurd cc
]
