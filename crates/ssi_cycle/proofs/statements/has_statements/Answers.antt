use Rattle.ssi_cycle.proofs.Slots.{slot_has}
use Rattle.ssi_cycle.proofs.statements.has_statements.Goals as goal

pub returns : goal.returns
returns c = rw (c.from.ensures, c.share_of.ensures, c.statement_count-count.ensures) (slot_has c.args.image.now c.args.slot)
