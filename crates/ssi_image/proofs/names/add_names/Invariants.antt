use Rattle.std.proofs.Common.{◌≡◌, ◌++◌, drop}
use Rattle.ssi_identities.specs.DataSets.{names_in}
use Rattle.ssi_identities.specs.NameLists.{names_of, with_names}
use Rattle.ssi_image.proofs.names.add_names.Given as goal

abbrev pub invariant-loop-index : goal.invariant-loop-index
invariant-loop-index l = record {
  others : l.names ≡ with_names l.fn.names l.kind (names_of l.names l.kind);
  left : names_of l.names l.kind ++ drop l.index (names_in l.image l.kind) ≡ names_in l.image l.kind;
}
