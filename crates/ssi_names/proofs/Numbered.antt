-- Where the counts are within the limits, everything is numbered as the data set says.
use Rattle.std.proofs.Common.{◌≡◌, ℕ, List, Option, Some, None, refl, ap, subst}
use Rattle.ssi_identities.specs.declared.fact.Counts.{Counts}
use Rattle.ssi_identities.specs.declared.fact.Kind.{Kind}
use Rattle.ssi_identities.specs.Facts.{IsWithinLimits}
use Rattle.ssi_names.specs.declared.faults.Judged.{Judged}
use Rattle.ssi_names.specs.RuleRows.{AreRowsBy, AreRowsOf}
use Rattle.ssi_names.specs.Rows.{counts_by}
use Rattle.ssi_names.specs.Scopes.{AreLimited, facts_by, numbers_by}
use Rattle.ssi_names.specs.SourceTexts.{SourceText}

-- so the counts are there
counts_are : (counts : Option Counts) (names : Kind → List (List ℕ)) → AreLimited counts names → (counts ≡ None → ¬ IsWithinLimits (counts_by names)) → IsWithinLimits (counts_by names)
    → counts ≡ Some (counts_by names)
counts_are None names limited past within = absurd (past refl within)
counts_are (Some counts) names limited past within = ap Some limited.same

-- and the files of rules have the rows of the data set
pub rows_are : (text : List ℕ) (counts : Option Counts) (names : Kind → List (List ℕ)) (tree : SourceText) (judged : Judged) → AreLimited counts names → (counts ≡ None → ¬ IsWithinLimits (counts_by names))
    → IsWithinLimits (counts_by names) → AreRowsBy text (facts_by counts names) (numbers_by counts names) tree judged → AreRowsOf text names tree judged
rows_are text counts names tree judged limited past within rows =
    subst (λ k. AreRowsBy text (facts_by k names) (numbers_by k names) tree judged) (counts_are counts names limited past within) rows
