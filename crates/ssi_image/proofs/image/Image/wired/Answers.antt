use Rattle.std.proofs.Common.{◌<◌, length, subst, sym, ap, ◌∙◌}
use Rattle.ssi_identities.specs.DataSets.{Plan, names_in}
use Rattle.ssi_image.specs.Tables.{wires_of}
use Rattle.ssi_image.proofs.Found.{wire_of_kind, table_long, wire_read}
use Rattle.ssi_image.proofs.image.Image.wired.Goals as goal

pub returns : goal.returns
returns c =
    let plan = c.self.inside.of_plan.0 in
    let within : c.args.index < length (names_in plan c.args.kind) = subst (λ (p : Plan). c.args.index < length (names_in p c.args.kind)) (sym c.self.view_is) c.requires.within in
    let long = table_long plan c.self.inside.tables c.args.kind c.args.index c.self.invariant c.requires.kind within in
    wire_of_kind plan c.args.self.now c.self.inside.tables c.args.kind c.args.index _ c.self.inside.of_plan.1.well c.self.view_is c.self.invariant c.requires.kind within
    (wire_read (wires_of c.self.inside.tables c.args.kind) c.wires.result.now c.args.index c.from.result c.wires.ensures c.from.ensures long)
