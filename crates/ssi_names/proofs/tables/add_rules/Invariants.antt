use Rattle.std.proofs.Common.{◌≡◌, false, true, take}
use Rattle.std.specs.Prelude.{fold}
use Rattle.ssi_names.specs.Declarations.{points_with_rules}
use Rattle.ssi_names.specs.NameLists.{with_name}
use Rattle.ssi_names.proofs.tables.add_rules.Given as goal

abbrev pub invariant-loop-name : goal.invariant-loop-name
invariant-loop-name l = record {
  normal : l.normal ≡ fold with_name l.fn.normal (points_with_rules l.text (take l.name-index l.rules) false);
  reverse : l.reverse ≡ fold with_name l.fn.reverse (points_with_rules l.text (take l.name-index l.rules) true);
}
