use Rattle.std.proofs.Common.{◌≡◌, map, take}
use Rattle.ssi_names.specs.Rows.{number_in}
use Rattle.ssi_names.proofs.rows.numbers.Given as goal

abbrev pub invariant-loop-spot : goal.invariant-loop-spot
invariant-loop-spot l = l.numbers.items ≡ map (number_in l.text l.names) (take l.spot-index l.spots)
