use Rattle.std.proofs.Common.{◌≡◌, ◌/◌, length, get_or, sym, ap, ◌∙◌, arith}
use Rattle.std.specs.Simd.{first_chunks}
use Rattle.std.specs.Cmp.{booleans_Decides}
use Rattle.std.proofs.lemmas.Slice.Eq.{slice_eq-Decides}
use Rattle.ssi_state.proofs.Blocks.{block_more}
use Rattle.ssi_state.proofs.state.equal_blocks.Goals as goal

pub loop-equal-preserved : goal.loop-equal-preserved
loop-equal-preserved g c =
    let n = g.row.N in
    let now = c.args.now.now in
    let before = c.args.before.now in
    let i = c.loop-equal.equal in
    let block = c.index-blocks-equal in
    let other = c.index-others-equal in
    let same = (slice_eq-Decides booleans_Decides block.result other.result c.eq.result c.eq.ensures).0 c.if-eq.true in
    let as_long : length before / n ≡ length now / n = ap (λ m. m / n) c.requires.same in
    let block_is = block.is ∙ ap (λ blocks. get_or blocks i block.result) c.as_chunks.ensures.front in
    let other_is = other.is ∙ ap (λ blocks. get_or blocks i other.result) (c.as_chunks-2.ensures.front ∙ ap (λ k. first_chunks n k before) as_long) in
    record {
      within = omega arith;
      same = block_more n (length now / n) before now i other.result block.result (omega arith) c.loop-equal.invariant.same other_is block_is (sym same);
    }
