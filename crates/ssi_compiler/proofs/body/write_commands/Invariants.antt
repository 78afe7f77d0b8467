use Rattle.std.proofs.Common.{◌≡◌, ◌++◌, drop, map}
use Rattle.std.specs.List.{concat}
use Rattle.ssi_identities.specs.Allowed.{body_of_commands}
use Rattle.ssi_identities.specs.Codes.{code_of_command, code_of_body}
use Rattle.ssi_compiler.proofs.body.write_commands.Given as goal

-- what is written, and the code of the commands that are left, is the whole
abbrev pub invariant-loop-command : goal.invariant-loop-command
invariant-loop-command l = l.code.items ++ concat (map code_of_command (drop l.command-index l.commands)) ≡ l.fn.code.items ++ code_of_body (body_of_commands l.commands)
