use Rattle.std.proofs.Common.{◌≤◌, length}
use Rattle.ssi_identities.specs.declared.fact.Kind.{Kind}
use Rattle.ssi_identities.specs.NameLists.{names_of}
use Rattle.ssi_identities.proofs.tests.added.Given as goal

abbrev pub invariant-loop-kind : goal.invariant-loop-kind
invariant-loop-kind g l = (each : Kind) → length (names_of l.names each) ≤ l.kind-index
