-- What conditions and bodies are judged by, and what their rows are made by, where they stand.
use Rattle.std.specs.Prelude.{◌≡◌, ℕ, Bool, List, ◌++◌, Option, Some, None, IfSome}
use Rattle.ssi_identities.specs.declared.data_set.RequestRow.{RequestRow}
use Rattle.ssi_identities.specs.declared.fact.Counts.{Counts}
use Rattle.ssi_identities.specs.declared.fact.FactKind.{FactKind}
use Rattle.ssi_identities.specs.declared.fact.Kind.{Kind}
use Rattle.ssi_identities.specs.declared.rule.CondItem.{CondItem}
use Rattle.ssi_identities.specs.declared.rule.Cond.{Cond}
use Rattle.ssi_identities.specs.declared.rule.Cmd.{Cmd}
use Rattle.ssi_identities.specs.declared.rule.BodyItem.{BodyItem}
use Rattle.ssi_identities.specs.declared.rule.Body.{Body}
use Rattle.ssi_identities.specs.DataSets.{StmtPlan}
use Rattle.ssi_identities.specs.Facts.{IsWithinLimits}
use Rattle.ssi_fop.specs.Statements.{StatementText}
use Rattle.ssi_opt.specs.Outputs.{OutputText}
use Rattle.ssi_terms.specs.declared.tree.Spot.{Spot}
use Rattle.ssi_terms.specs.declared.tree.CommandTree.{CommandTree}
use Rattle.ssi_terms.specs.declared.tree.ItemTree.{ItemTree}
use Rattle.ssi_terms.specs.declared.tree.CondTree.{CondTree}
use Rattle.ssi_terms.specs.declared.tree.PartTree.{PartTree}
use Rattle.ssi_terms.specs.declared.tree.BodyTree.{BodyTree}
use Rattle.ssi_names.specs.declared.fault.Fault.{Fault}
use Rattle.ssi_names.specs.declared.scope.Scope.{Scope}
use Rattle.ssi_names.specs.Bodies as f
use Rattle.ssi_names.specs.Declarations.{Declared}
use Rattle.ssi_names.specs.BodyRows as r
use Rattle.ssi_names.specs.Rows.{counts_by, fact_by_name, number_by_name}
use Rattle.ssi_names.specs.Tables.{table_of, known_by}
use Rattle.ssi_names.specs.Texts.{characters}

-- the counts are those of the names, and within the limits; a layout past them has none
pub record AreLimited (counts : Option Counts) (names : Kind → List (List ℕ)) : Type 0 where
  pub same : IfSome counts (λ c. c ≡ counts_by names)
  pub within : IfSome counts IsWithinLimits

-- the number of a fact of the identity with a name; 0 past the limits, where nothing is numbered
abbrev pub facts_by : Option Counts → (Kind → List (List ℕ)) → FactKind → List ℕ → ℕ
facts_by None names fact name = 0
facts_by (Some counts) names fact name = fact_by_name counts names fact name

-- the number of a name among those of its kind; 0 past the limits
abbrev pub numbers_by : Option Counts → (Kind → List (List ℕ)) → List ℕ → ℕ
numbers_by None names name = 0
numbers_by (Some counts) names name = number_by_name names name

module _ (scope : Scope) where
  abbrev pub names : Kind → List (List ℕ)
  names = table_of scope.tables.now

  -- what is declared
  abbrev pub known : Declared
  known = known_by scope.text.now scope.tables.now

  -- ---- faults

  abbrev pub test_faults : Spot → Spot → List Fault
  test_faults = f.test_faults known scope.file

  abbrev pub bit_faults : Spot → List Fault
  bit_faults = f.bit_faults known scope.file

  abbrev pub item_faults : ItemTree → List Fault
  item_faults = f.item_faults known scope.file

  abbrev pub cond_faults : CondTree → List Fault
  cond_faults = f.cond_faults known scope.file

  abbrev pub command_faults : List (Bool × ℕ) → CommandTree → List Fault
  command_faults = f.command_faults known scope.file

  abbrev pub commands_faults : List (Bool × ℕ) → List CommandTree → List Fault
  commands_faults = f.commands_faults known scope.file

  abbrev pub part_faults : PartTree → List Fault
  part_faults = f.part_faults known scope.file

  abbrev pub body_faults : BodyTree → List Fault
  body_faults = f.body_faults known scope.file

  -- ---- rows

  abbrev pub said_of : List ℕ → Option (FactKind × Bool) → ℕ × Bool
  said_of = r.said_of scope.text.now (facts_by scope.counts names) (numbers_by scope.counts names)

  abbrev pub test_by : List ℕ → ℕ × Bool → Option Bool → CondItem
  test_by = r.test_by scope.text.now (facts_by scope.counts names) (numbers_by scope.counts names)

  abbrev pub test_row : Spot → Spot → CondItem
  test_row = r.test_row scope.text.now (facts_by scope.counts names) (numbers_by scope.counts names)

  abbrev pub bit_row : Spot → Spot → CondItem
  bit_row = r.bit_row scope.text.now (facts_by scope.counts names) (numbers_by scope.counts names)

  abbrev pub item_row : ItemTree → CondItem
  item_row = r.item_row scope.text.now (facts_by scope.counts names) (numbers_by scope.counts names)

  abbrev pub cond_row : CondTree → Cond
  cond_row = r.cond_row scope.text.now (facts_by scope.counts names) (numbers_by scope.counts names)

  abbrev pub command_row : CommandTree → Cmd
  command_row = r.command_row scope.text.now (facts_by scope.counts names) (numbers_by scope.counts names)

  abbrev pub part_row : PartTree → BodyItem
  part_row = r.part_row scope.text.now (facts_by scope.counts names) (numbers_by scope.counts names)

  abbrev pub body_row : BodyTree → Body
  body_row = r.body_row scope.text.now (facts_by scope.counts names) (numbers_by scope.counts names)

  abbrev pub statement_row : StatementText → StmtPlan
  statement_row = r.statement_row scope.text.now (facts_by scope.counts names) (numbers_by scope.counts names)

  abbrev pub with_output : List (Option Cond) → Spot × CondTree → List (Option Cond)
  with_output = r.with_output scope.text.now (facts_by scope.counts names) (numbers_by scope.counts names)

  abbrev pub outputs_row : OutputText → List (Option Cond)
  outputs_row = r.outputs_row scope.text.now (facts_by scope.counts names) (numbers_by scope.counts names)

  -- a request with its body
  abbrev pub request_row : Spot × BodyTree → RequestRow
  request_row entry = record { name = characters scope.text.now entry.0; body = body_row entry.1 }
