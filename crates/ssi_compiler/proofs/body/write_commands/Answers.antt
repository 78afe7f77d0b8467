use Rattle.std.proofs.Common.{◌++◌, ap, sym}
use Rattle.ssi_compiler.proofs.Commands.{commands_code}
use Rattle.ssi_compiler.proofs.body.write_commands.Goals as goal

pub loop-command-init : goal.loop-command-init
loop-command-init c = ap (λ written. c.args.code.now.items ++ written) (sym (commands_code c.args.commands.now))
