use Rattle.std.proofs.Common.{◌≡◌, take, length}
use Rattle.ssi_image.proofs.Tabling.{PlacesAmong}
use Rattle.ssi_image.proofs.tables.places.Given as goal

abbrev pub invariant-loop-number : goal.invariant-loop-number
invariant-loop-number l = record {
  long : length l.table.items ≡ 64;
  places : PlacesAmong (take l.number l.modules) l.table.items;
}
