use Rattle.std.proofs.Common.{◌∙◌}
use Rattle.ssi_image.proofs.Naming.{name_found, name_missed}
use Rattle.ssi_image.proofs.image.Image.name.Goals as goal

pub returns-in-Some-clause-name : goal.returns-in-Some-clause-name
returns-in-Some-clause-name c =
    c.bytes.ensures.bytes ∙ name_found c.self.inside.rows c.self.inside.of_plan.0 c.args.self.now c.args.kind c.args.index c.in-Some.name.now c.self.inside.of_plan.1.same c.self.view_is c.in-Some.ensures

pub returns-in-None-clause-name : goal.returns-in-None-clause-name
returns-in-None-clause-name c = name_missed c.self.inside.rows c.self.inside.of_plan.0 c.args.self.now c.args.kind c.args.index c.self.inside.of_plan.1.same c.self.view_is c.in-None.ensures
