use Rattle.std.proofs.Common.{arith}
use Rattle.ssi_trackside.specs.Module.{after_event}
use Rattle.ssi_trackside.proofs.Places.{changed_at}
use Rattle.ssi_trackside.proofs.shelf.event_at.Goals as goal

pub returns-clause-states : goal.returns-clause-states
returns-clause-states g c =
    changed_at _ (λ s. after_event s c.args.event) c.args.shelf.now.items c.args.place c.index_mut.result.now _ (omega arith) c.index_mut.ensures.value c.event_one.ensures
