use Rattle.ssi_identities.proofs.Growth.{grows, has_room, no_names}
use Rattle.ssi_identities.proofs.tests.added.Goals as goal

pub loop-kind-init : goal.loop-kind-init
loop-kind-init g c = no_names _ c.in_ok-names.ensures

pub add-requires : goal.add-requires
add-requires g c = has_room c.loop-kind.names c.loop-kind.kind-index _ c.loop-kind.invariant c.loop-kind-test.true c.requires _

pub loop-kind-preserved : goal.loop-kind-preserved
loop-kind-preserved g c = grows c.loop-kind.names c.add.new.self _ _ c.in_ok-add.field-0 c.loop-kind.kind-index c.loop-kind.invariant c.in_ok-add.ensures.ok c.add.ensures.others
