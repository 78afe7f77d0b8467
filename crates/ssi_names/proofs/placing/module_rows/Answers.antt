use Rattle.std.proofs.Common.{◌≡◌, length, map, drop, get_or, ap, ◌∙◌, arith}
use Rattle.ssi_names.specs.Rows.{body, module_row}
use Rattle.ssi_names.specs.Tables.{table_of}
use Rattle.ssi_names.proofs.Told.{last_part}
use Rattle.ssi_names.proofs.ToldRows.{input_told}
use Rattle.ssi_names.proofs.placing.module_rows.Goals as goal

pub loop-body-preserved : goal.loop-body-preserved
loop-body-preserved c =
    let text = c.args.text.now in
    let names = table_of c.args.tables.now in
    let inputs = c.args.inputs.now in
    let rest = c.pop.new.self in
    let entry = c.index-inputs-len in
    let n = length rest.items in
    let was = c.loop-body.invariant in
    let at : c.len.result ≡ n = omega (arith, rest.ok.0) in
    let is : entry.result ≡ get_or inputs n entry.result = entry.is ∙ ap (λ i. get_or inputs i entry.result) at in
    let last = last_part (λ i. body text names i.1) inputs entry.result c.loop-body.bodies.items rest.items c.in-Some.body c.in-Some.ensures.items was.few was.left is in
    record {
      few = omega (arith, last.within);
      left = last.left;
      told = input_told text names c.args.outputs.now c.args.entries.now inputs n entry.result c.args.tables.now.addresses c.characters.result.now c.find-place.result c.in-Some.body _ _ c.requires.places
          last.within is (was.told ∙ ap (λ k. map (module_row text names c.args.outputs.now (drop k inputs)) c.args.entries.now) last.long) c.characters.ensures.value c.find-place.ensures last.made
          c.tell_input.ensures;
    }
