-- Whether a number is that of a fact of certain kinds.
use Rattle.std.proofs.Common.{sym, ◌≡◌, ap, ◌∙◌, ℕ, ◌<◌, ◌≤◌, Bool, false, arith}
use Rattle.std.proofs.lemmas.Option.{slice_get_past}
use Rattle.ssi_identities.specs.declared.fact.Counts.{Counts}
use Rattle.ssi_identities.specs.declared.fact.FactKind.{FactKind}
use Rattle.ssi_identities.specs.Allowed.{is_fact_of, is_number_of}
use Rattle.ssi_identities.specs.Facts.{count_of, fact_count_of, fact_number_of, facts_of}
use Rattle.ssi_identities.proofs.FactOrder.{all_facts, in_order}

-- the number of a fact is one of these where the fact's kind is
pub number_by_kind : (is_kind : FactKind → Bool) (counts : Counts) (kind : FactKind) (index number : ℕ) → index < count_of counts kind → fact_number_of counts kind index ≡ number
    → is_number_of is_kind counts number ≡ is_kind kind
number_by_kind is_kind counts kind index number within is =
    ap (λ n. is_number_of is_kind counts n) (sym is) ∙ ap (is_fact_of is_kind) (in_order counts kind index within)

-- a number past the last fact is none of these
pub past_the_facts : (is_kind : FactKind → Bool) (counts : Counts) (number : ℕ) → fact_count_of counts ≤ number → is_number_of is_kind counts number ≡ false
past_the_facts is_kind counts number past = ap (is_fact_of is_kind) (slice_get_past (facts_of counts) number (omega (arith, all_facts counts)))
