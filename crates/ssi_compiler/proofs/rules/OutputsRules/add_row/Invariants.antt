use Rattle.std.proofs.Common.{◌≡◌, ◌++◌, drop, option_map}
use Rattle.std.specs.List.{flat_map}
use Rattle.ssi_identities.specs.Codes.{code_of_cond}
use Rattle.ssi_image.specs.Packed.{piece_or_none, output_pieces}
use Rattle.ssi_compiler.proofs.rules.OutputsRules.add_row.Given as goal

-- the pieces so far, and those of the bits that are left, are all
abbrev pub invariant-loop-output : goal.invariant-loop-output
invariant-loop-output l = l.pieces ++ flat_map (λ output. piece_or_none (option_map code_of_cond output)) (drop l.output-index l.output-items) ≡ l.fn.pieces ++ output_pieces l.row
