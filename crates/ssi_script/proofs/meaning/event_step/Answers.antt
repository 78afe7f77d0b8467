use Rattle.ssi_script.proofs.Wires.{happens}
use Rattle.ssi_script.proofs.meaning.event_step.Goals as goal

pub returns : goal.returns
returns c =
    happens c.args.image.now c.args.word c.wired_kind.result c.args.identity c.wired-module.result.0 c.wired-module.result.1 c.address.result c.module_kind_of.result c.event_at.result
    c.requires.well c.requires.within c.wired_kind.ensures c.wired-module.ensures c.address.ensures c.module_kind_of.ensures c.event_at.ensures
