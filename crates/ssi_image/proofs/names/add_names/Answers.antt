use Rattle.std.proofs.Common.{◌∙◌, ap, sym, arith, ◌<◌, length}
use Rattle.std.specs.Prelude.{slice_index_or}
use Rattle.ssi_identities.specs.DataSets.{names_in}
use Rattle.ssi_image.proofs.NewNames.{next_name, others_stay}
use Rattle.ssi_image.proofs.names.add_names.Goals as goal

pub loop-index-preserved : goal.loop-index-preserved
loop-index-preserved c =
    let so_far = c.loop-index.invariant in
    let all = names_in c.args.image.now c.args.kind in
    let within : c.loop-index.index < length all = omega (arith, c.requires.count) in
    record {
      others = others_stay c.args.names.now c.loop-index.names c.add.new.self c.args.kind _ _ so_far.others c.add.ensures.others;
      left = next_name all c.loop-index.index c.name.result.now _ _ c.in_ok-add.field-0 within c.name.ensures.name c.name.ensures.differ so_far.left c.in_ok-add.ensures.ok;
    }
