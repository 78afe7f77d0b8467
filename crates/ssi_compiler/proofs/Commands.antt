-- The code of commands as a body.
use Rattle.std.proofs.Common.{◌≡◌, List, [], ◌∷◌, map, ◌∙◌, ℕ, refl}
use Rattle.std.specs.List.{concat}
use Rattle.ssi_identities.specs.declared.rule.BodyItem.TheVariants.{Do}
use Rattle.ssi_identities.specs.declared.rule.Cmd.{Cmd}
use Rattle.ssi_identities.specs.Allowed.{body_of_commands}
use Rattle.ssi_identities.specs.Codes.{part_code, body_code, code_of_command, code_of_part, code_of_body}
use Rattle.ssi_identities.proofs.Bodies.{body_is, do_is}

each_command : (commands : List Cmd) → concat (map code_of_part (map (λ command. Do command) commands)) ≡ concat (map code_of_command commands)
each_command [] = refl
each_command (command ∷ commands) = let first = do_is (List ℕ) (List ℕ) part_code body_code command in let rest = each_command commands in cc

-- it is theirs one after another
pub commands_code : (commands : List Cmd) → code_of_body (body_of_commands commands) ≡ concat (map code_of_command commands)
commands_code commands = body_is (List ℕ) (List ℕ) part_code body_code (map (λ command. Do command) commands) ∙ each_command commands
