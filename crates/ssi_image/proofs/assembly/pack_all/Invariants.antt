use Rattle.std.proofs.Common.{◌≡◌, ◌++◌, ℕ, List, map, take, drop}
use Rattle.std.specs.List.{flat_map}
use Rattle.ssi_image.proofs.assembly.pack_all.Given as goal

abbrev pub invariant-loop-row : goal.invariant-loop-row
invariant-loop-row g l = record {
  made : l.made.items ≡ map g.P.Packs.packed (take l.row-index l.rows);
  taken : l.fn.pieces ≡ flat_map g.P.Packs.pieces_of (take l.row-index l.rows) ++ l.pieces;
  left : (rest : List (List ℕ)) × (l.pieces ≡ flat_map g.P.Packs.pieces_of (drop l.row-index l.rows) ++ rest);
}
