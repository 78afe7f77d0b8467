use Rattle.std.proofs.Common.{◌≡◌, ◌++◌, drop}
use Rattle.std.specs.List.{flat_map}
use Rattle.ssi_compiler.proofs.rules.add_rows.Given as goal

-- the pieces so far, and those of the rows that are left, are all
abbrev pub invariant-loop-row : goal.invariant-loop-row
invariant-loop-row g l = l.pieces ++ flat_map g.R.Rules.pieces_of (drop l.row-index l.rows) ≡ l.fn.pieces ++ flat_map g.R.Rules.pieces_of l.rows
