use Rattle.std.proofs.Common.{refl}
use Rattle.ssi_image.proofs.Found.{place_past}
use Rattle.ssi_script.proofs.meaning.module_at.Goals as goal

pub returns-else-address-lt64 : goal.returns-else-address-lt64
returns-else-address-lt64 c = place_past c.args.image.now c.args.image.now c.args.address c.requires.well refl c.if-address-lt64.false
