use Rattle.ssi_names.proofs.Formed.{text_formed}
use Rattle.ssi_names.proofs.resolving.resolve.Goals as goal

pub resolve_by-requires-clause-formed : goal.resolve_by-requires-clause-formed
resolve_by-requires-clause-formed c = text_formed c.args.text.now c.args.tree.now c.requires.short c.requires.spelled
