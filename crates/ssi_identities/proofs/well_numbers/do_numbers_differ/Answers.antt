use Rattle.std.proofs.Common.{◌≡◌, ◌+◌, IsTrue, true, false, refl, ap, sym, ◌∙◌, drop, get_or}
use Rattle.std.proofs.lemmas.Bool.{both_ways}
use Rattle.std.proofs.lemmas.List.{take_rest}
use Rattle.ssi_identities.proofs.Differing.{differ_after, differ_past, differ_with, none_after, one_has}
use Rattle.ssi_identities.proofs.well_numbers.do_numbers_differ.Goals as goal

pub returns-then-has_number : goal.returns-then-has_number
returns-then-has_number g c =
    let number = g.T.Numbered.number in
    let rows = c.args.rows.now in
    let index = c.loop-index.index in
    let row = c.index-rows-index.result in
    let found : one_has number (number (get_or rows index row)) (drop (index + 1) rows) ≡ true =
    ap (λ x. one_has number (number x) (drop (index + 1) rows)) (sym c.index-rows-index.is) ∙ ap (λ n. one_has number n (drop (index + 1) rows)) (sym c.number.ensures)
    ∙ ap (one_has number c.number.result) (sym (take_rest rows (index + 1))) ∙ sym c.has_number.ensures ∙ c.if-has_number.true in (
      λ (never : IsTrue false). absurd cc,
      λ differ. absurd (both_ways _ (none_after number rows index row c.loop-index-test.true (c.loop-index.invariant.rest differ)) found),
    )

pub loop-index-preserved : goal.loop-index-preserved
loop-index-preserved g c =
    let number = g.T.Numbered.number in
    let rows = c.args.rows.now in
    let index = c.loop-index.index in
    let row = c.index-rows-index.result in
    let none : one_has number (number (get_or rows index row)) (drop (index + 1) rows) ≡ false =
    ap (λ x. one_has number (number x) (drop (index + 1) rows)) (sym c.index-rows-index.is) ∙ ap (λ n. one_has number n (drop (index + 1) rows)) (sym c.number.ensures)
    ∙ ap (one_has number c.number.result) (sym (take_rest rows (index + 1))) ∙ sym c.has_number.ensures ∙ c.if-has_number.false in
    record {
      all = λ differ. c.loop-index.invariant.all (differ_with number rows index row c.loop-index-test.true none differ);
      rest = λ differ. differ_after number rows index row c.loop-index-test.true (c.loop-index.invariant.rest differ);
    }

pub returns : goal.returns
returns g c = (λ ended. c.loop-index.invariant.all (differ_past g.T.Numbered.number c.args.rows.now c.loop-index.index c.loop-index-test.false), λ differ. refl)
