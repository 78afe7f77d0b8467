-- Commands as a well body.
use Rattle.std.proofs.Common.{◌≡◌, sym, ◌∙◌, ◌*◌, ◌<◌, ◌^◌, Bool, true, List, length, arith}
use Rattle.std.specs.Prelude.{nat_le}
use Rattle.std.specs.List.{list_all}
use Rattle.std.proofs.lemmas.Bool.{and_from, and_parts, leb-true, le-leb}
use Rattle.ssi_identities.specs.declared.rule.Cmd.{Cmd}
use Rattle.ssi_identities.specs.Allowed.{BodyScope, IsWellBody, body_of_commands}
use Rattle.ssi_identities.proofs.Allowed.{depth_of_commands, within_of_commands}
use Rattle.ssi_identities.proofs.Codes.{length_of_commands}

module _ (scope : BodyScope) (commands : List Cmd) where
  -- whether each may be commanded
  abbrev pub may_all : Bool
  may_all = list_all (λ command. scope.may_command command.fact) commands

  -- some commands, each of which may be commanded, and whose code is short, are a well body
  pub well_commands : 0 < length commands → 3 * length commands < 2 ^ 32 → may_all ≡ true → IsWellBody scope (body_of_commands commands)
  well_commands some short all = record {
    within = within_of_commands scope commands ∙ and_from (nat_le 1 (length commands)) may_all (le-leb 1 (length commands) some) all;
    depth = omega (arith, depth_of_commands commands);
    short = omega (arith, short, length_of_commands commands);
  }

  -- what there is to a well body of commands
  pub some_command : IsWellBody scope (body_of_commands commands) → 0 < length commands
  some_command well = leb-true 1 (length commands) (and_parts (nat_le 1 (length commands)) may_all (sym (within_of_commands scope commands) ∙ well.within)).0

  pub all_may : IsWellBody scope (body_of_commands commands) → may_all ≡ true
  all_may well = (and_parts (nat_le 1 (length commands)) may_all (sym (within_of_commands scope commands) ∙ well.within)).1

  pub short_commands : IsWellBody scope (body_of_commands commands) → 3 * length commands < 2 ^ 32
  short_commands well = omega (arith, well.short, length_of_commands commands)
