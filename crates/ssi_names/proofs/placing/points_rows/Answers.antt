use Rattle.std.proofs.Common.{◌≡◌, length, map, drop, get_or, ap, ◌∙◌, arith}
use Rattle.ssi_names.specs.Rows.{condition, points_row}
use Rattle.ssi_names.specs.Tables.{table_of}
use Rattle.ssi_names.proofs.Told.{last_part}
use Rattle.ssi_names.proofs.ToldRows.{move_told}
use Rattle.ssi_names.proofs.placing.points_rows.Goals as goal

pub loop-cond-preserved : goal.loop-cond-preserved
loop-cond-preserved c =
    let text = c.args.text.now in
    let names = table_of c.args.tables.now in
    let rules = c.args.rules.now in
    let rest = c.pop.new.self in
    let entry = c.index-rules-len in
    let n = length rest.items in
    let was = c.loop-cond.invariant in
    let at : c.len.result ≡ n = omega (arith, rest.ok.0) in
    let is : entry.result ≡ get_or rules n entry.result = entry.is ∙ ap (λ i. get_or rules i entry.result) at in
    let last = last_part (λ rule. condition text names rule.2) rules entry.result c.loop-cond.moves.items rest.items c.in-Some.cond c.in-Some.ensures.items was.few was.left is in
    record {
      few = omega (arith, last.within);
      left = last.left;
      told = move_told text names c.args.entries.now rules n entry.result c.args.tables.now.points c.characters.result.now c.find-place.result c.is_reverse.result c.in-Some.cond _ _ c.requires.places
          last.within is (was.told ∙ ap (λ k. map (points_row text names (drop k rules)) c.args.entries.now) last.long) c.characters.ensures.value c.find-place.ensures c.is_reverse.ensures last.made
          c.tell_move.ensures;
    }
