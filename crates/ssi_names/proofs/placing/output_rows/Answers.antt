use Rattle.std.proofs.Common.{◌≡◌, [], length, map, drop, get_or, Global, Option, Vec, ap, ◌∙◌, arith}
use Rattle.std.proofs.lemmas.List.{length-map, map_push}
use Rattle.ssi_identities.specs.declared.rule.Cond.{Cond}
use Rattle.ssi_opt.specs.Outputs.{OutputText}
use Rattle.ssi_names.specs.Rows.{module_row, outputs_row}
use Rattle.ssi_names.specs.Tables.{table_of}
use Rattle.ssi_names.specs.Texts.{characters}
use Rattle.ssi_names.proofs.Told.{last_part}
use Rattle.ssi_names.proofs.ToldRows.{outputs_told}
use Rattle.ssi_names.proofs.placing.output_rows.Goals as goal

pub loop-row-preserved : goal.loop-row-preserved
loop-row-preserved c =
    let text = c.args.text.now in
    let names = table_of c.args.tables.now in
    let outputs = c.args.outputs.now in
    let items = λ (row : Vec (Option Cond) Global). row.items in
    let rest = c.pop.new.self in
    let entry = c.index-outputs-len in
    let n = length (map items rest.items) in
    let was = c.loop-row.invariant in
    let at : c.len.result ≡ n = omega (arith, rest.ok.0, length-map rest.items items) in
    let is : entry.result ≡ get_or outputs n entry.result = entry.is ∙ ap (λ i. get_or outputs i entry.result) at in
    let split = ap (map items) c.in-Some.ensures.items ∙ map_push items rest.items c.in-Some.row in
    let last = last_part (outputs_row text names) outputs entry.result (map items c.loop-row.bits.items) (map items rest.items) c.in-Some.row.items split was.few was.left is in
    let named = c.characters.ensures.value ∙ ap (λ (o : OutputText). characters text o.address) c.entry.view_is in
    record {
      few = omega (arith, last.within);
      left = last.left;
      told = outputs_told text names [] c.args.entries.now outputs n entry.result c.args.tables.now.addresses c.characters.result.now c.find-place.result c.in-Some.row.items _ _ c.requires.places
          last.within is (was.told ∙ ap (λ k. map (module_row text names (drop k outputs) []) c.args.entries.now) last.long) named c.find-place.ensures last.made
          c.tell_outputs.ensures;
    }
