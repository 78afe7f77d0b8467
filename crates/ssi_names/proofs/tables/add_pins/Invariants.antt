use Rattle.std.proofs.Common.{◌≡◌, map, take}
use Rattle.std.specs.Prelude.{fold}
use Rattle.ssi_names.specs.NameLists.{with_name}
use Rattle.ssi_names.specs.Texts.{characters}
use Rattle.ssi_names.proofs.tables.add_pins.Given as goal

abbrev pub invariant-loop-name : goal.invariant-loop-name
invariant-loop-name l = l.names ≡ fold with_name l.fn.names (map (λ pin. characters l.text pin.0) (take l.name-index l.pins))
