use Rattle.std.proofs.Common.{IsTrue, false, sym, ◌∙◌, arith}
use Rattle.ssi_identities.specs.Deciding.{body_scope_of}
use Rattle.ssi_identities.proofs.WellCommands.{all_may, short_commands, some_command, well_commands}
use Rattle.ssi_identities.proofs.well_bodies.are_well_commands.Goals as goal

pub returns-then-size-eq0 : goal.returns-then-size-eq0
returns-then-size-eq0 c =
    let scope = body_scope_of c.args.place.now in
    let commands = c.args.commands.now in (
      λ (never : IsTrue false). absurd cc,
      λ well. let some = some_command scope commands well in let short = short_commands scope commands well in absurd (grind (arith, c.saturating_mul-size.ensures, c.then-size-eq0.either)),
    )

pub returns : goal.returns
returns c =
    let scope = body_scope_of c.args.place.now in
    let commands = c.args.commands.now in (
      λ all. well_commands scope commands (omega arith) (omega arith) (sym c.may_command_all.ensures ∙ all),
      λ well. c.may_command_all.ensures ∙ all_may scope commands well,
    )
