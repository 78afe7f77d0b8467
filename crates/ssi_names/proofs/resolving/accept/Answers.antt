use Rattle.std.proofs.Common.{◌∙◌, sym, subst}
use Rattle.ssi_identities.specs.Wells.{IsWell}
use Rattle.ssi_names.proofs.Fine.{same_plan, small_tables}
use Rattle.ssi_names.proofs.OwnPlaces.{places_of_modules, places_of_points}
use Rattle.ssi_names.proofs.Wellness.{is_well}
use Rattle.ssi_names.proofs.WellModules.{addresses_small}
use Rattle.ssi_names.proofs.resolving.accept.Goals as goal

pub data_set-requires-clause-small : goal.data_set-requires-clause-small
data_set-requires-clause-small c = small_tables c.args.text.now c.args.tree.now c.args.tables.now c.requires.tables c.requires.fine

pub data_set-requires-clause-addresses : goal.data_set-requires-clause-addresses
data_set-requires-clause-addresses c = addresses_small c.args.text.now c.args.tree.now c.requires.fine

pub data_set-requires-clause-points : goal.data_set-requires-clause-points
data_set-requires-clause-points c = places_of_points c.args.text.now c.args.tree.now c.args.tables.now c.requires.tables c.requires.fine

pub data_set-requires-clause-modules : goal.data_set-requires-clause-modules
data_set-requires-clause-modules c = places_of_modules c.args.text.now c.args.tree.now c.args.tables.now c.requires.tables c.requires.fine

pub returns-in-Ok : goal.returns-in-Ok
returns-in-Ok c =
    let text = c.args.text.now in
    let tree = c.args.tree.now in
    let same = c.in-Ok.ensures ∙ same_plan text tree c.args.tables.now c.requires.tables c.requires.fine in
    (c.requires.fine, same, subst IsWell (sym same) (is_well text tree c.requires.formed c.requires.fine))
