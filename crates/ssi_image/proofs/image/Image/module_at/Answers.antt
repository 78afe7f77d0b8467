use Rattle.std.proofs.Common.{arith}
use Rattle.std.proofs.lemmas.Bool.Decides.{nat_tests}
use Rattle.std.proofs.lemmas.Grind.{common_steps}
use Rattle.ssi_image.proofs.Found.{place_found, place_past}
use Rattle.ssi_image.proofs.image.Image.module_at.Goals as goal

pub returns-then-address-lt64 : goal.returns-then-address-lt64
returns-then-address-lt64 c =
    place_found c.self.inside.of_plan.0 c.args.self.now c.self.inside.tables c.args.address c.index.result.now c.self.view_is c.self.invariant c.if-address-lt64.true
    (let index = c.index.ensures in let place = c.from.ensures in grind (arith, common_steps))

pub returns-else-address-lt64 : goal.returns-else-address-lt64
returns-else-address-lt64 c = place_past c.self.inside.of_plan.0 c.args.self.now c.args.address c.self.inside.of_plan.1.well c.self.view_is (grind (arith, nat_tests))
