use Rattle.std.proofs.Common.{sym, ◌∙◌}
use Rattle.ssi_cycle.proofs.Modules.{module_found}
use Rattle.ssi_cycle.proofs.exchange.take_arrival.Goals as goal

pub take_from-requires-clause-there : goal.take_from-requires-clause-there
take_from-requires-clause-there c = (module_found c.args.image.now c.args.slot c.in-Some.module c.requires.well (sym c.module_at.ensures ∙ c.in-Some.is)).within
