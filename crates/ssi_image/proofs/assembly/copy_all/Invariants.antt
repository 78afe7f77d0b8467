use Rattle.std.proofs.Common.{◌≡◌, map, take}
use Rattle.ssi_image.proofs.assembly.copy_all.Given as goal

abbrev pub invariant-loop-row : goal.invariant-loop-row
invariant-loop-row g l = l.made.items ≡ map g.C.CopyOf.copied (take l.row-index l.rows)
