-- The rows of the files of rules, as they are made while their entries are judged.
use Rattle.std.specs.Prelude.{◌≡◌, ℕ, List, map}
use Rattle.ssi_identities.specs.declared.fact.FactKind.{FactKind}
use Rattle.ssi_identities.specs.declared.fact.Kind.{Kind}
use Rattle.ssi_names.specs.declared.faults.Judged.{Judged}
use Rattle.ssi_names.specs.BodyRows.{body_row, cond_row, outputs_row, statement_row}
use Rattle.ssi_names.specs.Rows.{counts_by, fact_by_name, number_by_name}
use Rattle.ssi_names.specs.SourceTexts.{SourceText}
use Rattle.ssi_names.specs.Texts.{characters}

-- each file has the rows of its entries, in written order, by the number of a fact of the identity with a name, and by the number of a name
pub record AreRowsBy (text : List ℕ) (fact_of : FactKind → List ℕ → ℕ) (number_of : List ℕ → ℕ) (tree : SourceText) (judged : Judged) : Type 0 where
  pub requests : judged.requests.items ≡ map (λ entry. record { name = characters text entry.0; body = body_row text fact_of number_of entry.1 }) tree.requests
  pub moves : judged.moves.items ≡ map (λ rule. cond_row text fact_of number_of rule.2) tree.free
  pub statements : judged.statements.items ≡ map (statement_row text fact_of number_of) tree.statements
  pub outputs : map (λ row. row.items) judged.outputs.items ≡ map (outputs_row text fact_of number_of) tree.outputs
  pub inputs : judged.inputs.items ≡ map (λ entry. body_row text fact_of number_of entry.1) tree.inputs

-- the same by the names of each kind
abbrev pub AreRowsOf : List ℕ → (Kind → List (List ℕ)) → SourceText → Judged → Type 0
AreRowsOf text names tree judged = AreRowsBy text (fact_by_name (counts_by names) names) (number_by_name names) tree judged
