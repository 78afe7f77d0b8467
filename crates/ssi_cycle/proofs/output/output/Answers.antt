use Rattle.std.proofs.Common.{Some, ap, sym, ◌∙◌, arith}
use Rattle.std.specs.Prelude.{option_map}
use Rattle.ssi_telegrams.specs.Telegram.{command_telegram_of}
use Rattle.ssi_cycle.specs.Outputs.{output_byte}
use Rattle.ssi_cycle.proofs.Modules.{module_found}
use Rattle.ssi_cycle.proofs.output.output.Goals as goal

pub byte-requires-clause-there : goal.byte-requires-clause-there
byte-requires-clause-there c = (module_found c.args.image.now c.args.slot c.in_ok-module.module c.requires.well (sym c.module_at.ensures ∙ c.in_ok-module.was)).within

pub command_bytes-requires : goal.command_bytes-requires
command_bytes-requires c =
    let found = module_found c.args.image.now c.args.slot c.in_ok-module.module c.requires.well (sym c.module_at.ensures ∙ c.in_ok-module.was) in
    (omega (arith, found.address_is, found.well.some), omega (arith, found.address_is, found.well.few))

pub returns : goal.returns
returns c =
    let plan = c.args.image.now in
    let found = module_found plan c.args.slot c.in_ok-module.module c.requires.well (sym c.module_at.ensures ∙ c.in_ok-module.was) in
    ap Some (c.command_bytes.ensures ∙ ap (command_telegram_of c.args.slot) (c.byte.ensures found.row found.row_is))
    ∙ ap (option_map (λ row. command_telegram_of c.args.slot (output_byte plan c.args.state.now row))) (sym found.in_slot)
