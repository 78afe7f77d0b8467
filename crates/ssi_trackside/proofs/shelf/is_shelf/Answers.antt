use Rattle.std.proofs.Common.{IsTrue, false, ◌∙◌, sym, arith}
use borrow.Author.Count.{below_more}
use Rattle.ssi_trackside.proofs.Places.{read_at, fresh_at}
use Rattle.ssi_trackside.proofs.shelf.is_shelf.Goals as goal

pub returns-then-not-is_fresh_of_kind : goal.returns-then-not-is_fresh_of_kind
returns-then-not-is_fresh_of_kind g c =
    let place = c.loop-place.place in (
      λ (no : IsTrue false). cc,
      λ shelf. sym c.if-not-is_fresh_of_kind.true
          ∙ c.is_fresh_of_kind.ensures.1 (read_at _ c.args.shelf.now.items place c.index.result.now (omega arith) c.index.ensures ∙ fresh_at _ shelf place (omega arith)),
    )

pub loop-place-preserved : goal.loop-place-preserved
loop-place-preserved g c =
    let place = c.loop-place.place in
    let read = read_at _ c.args.shelf.now.items place c.index.result.now (omega arith) c.index.ensures in
    record {
      full = c.loop-place.invariant.full;
      each = below_more _ place c.loop-place.invariant.each (sym read ∙ c.is_fresh_of_kind.ensures.0 c.if-not-is_fresh_of_kind.false);
    }
