-- All slots together have all statements.
use Rattle.std.proofs.Common.{◌≡◌, ℕ, zero, suc, ◌+◌, ◌*◌, ◌≤◌, List, ◌++◌, length, take, drop, ap, sym, ◌∙◌, arith}
use Rattle.std.specs.List.{flat_map, range_with_len}
use Rattle.std.proofs.lemmas.List.{drop-drop, take_all}
use Rattle.std.proofs.Math.Seq.{take-add}
use Rattle.ssi_identities.specs.DataSets.{StmtPlan}
use Rattle.ssi_cycle.specs.Statements.{share_of, statements_in}

-- 64 slots have enough
pub enough : (count : ℕ) → count ≤ 64 * share_of count
enough count = omega arith

-- no smaller share would do
pub least : (count share : ℕ) → count ≤ 64 * share → share_of count ≤ share
least count share within = omega (arith, within)

-- so many slots, from one on, have as many shares of the statements from there on
slots_from : (share : ℕ) (rows : List StmtPlan) (slot slots : ℕ) → flat_map (λ slot. take share (drop (slot * share) rows)) (range_with_len slot slots) ≡ take (slots * share) (drop (slot * share) rows)
slots_from share rows slot zero =
    let none : 0 * share ≡ 0 = omega arith in
    ap (λ n. take n (drop (slot * share) rows)) (sym none)
slots_from share rows slot (suc slots) =
    let more : suc slots * share ≡ share + slots * share = omega arith in
    let next : slot * share + share ≡ (slot + 1) * share = omega arith in
    let part : List StmtPlan = drop (slot * share) rows in
    ap (λ others. take share part ++ others) (slots_from share rows (slot + 1) slots)
    ∙ ap (λ n. take share part ++ take (slots * share) (drop n rows)) (sym next)
    ∙ ap (λ others. take share part ++ take (slots * share) others) (sym (drop-drop share (slot * share) rows))
    ∙ sym (take-add share (slots * share) part)
    ∙ ap (λ n. take n part) (sym more)

-- all 64 have all
pub each_once : (rows : List StmtPlan) → flat_map (statements_in rows) (range_with_len 0 64) ≡ rows
each_once rows =
    let share = share_of (length rows) in
    let first : 0 * share ≡ 0 = omega arith in
    slots_from share rows 0 64 ∙ ap (λ n. take (64 * share) (drop n rows)) first ∙ take_all (64 * share) rows (enough (length rows))
