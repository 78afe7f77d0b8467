use Rattle.ssi_names.proofs.Formed.{text_formed}
use Rattle.ssi_names.proofs.Wellness.{is_well}
use Rattle.ssi_names.proofs.resolving.laws_of_resolving.Goals as goal

pub returns : goal.returns
returns c = λ text tree short spelled none. is_well text tree (text_formed text tree short spelled) none
