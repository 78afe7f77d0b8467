-- Conditions and bodies with numbers of facts. They tell something only where there are no faults.
use Rattle.std.specs.Prelude.{ℕ, min, Bool, false, codes, List, fold, map, replicate, slice_set, Option, Some, None}
use Rattle.std.specs.Str.{bytes_eq}
use Rattle.ssi_identities.specs.declared.fact.FactKind.{FactKind}
use Rattle.ssi_identities.specs.declared.rule.CondItem.{CondItem}
use Rattle.ssi_identities.specs.declared.rule.CondItem.TheVariants as item
use Rattle.ssi_identities.specs.declared.rule.Cond.{Cond}
use Rattle.ssi_identities.specs.declared.rule.Cmd.{Cmd}
use Rattle.ssi_identities.specs.declared.rule.BodyItem.{BodyItem}
use Rattle.ssi_identities.specs.declared.rule.BodyItem.TheVariants as part
use Rattle.ssi_identities.specs.declared.rule.Body.{Body}
use Rattle.ssi_identities.specs.DataSets.{StmtPlan}
use Rattle.ssi_fop.specs.Statements.{StatementText}
use Rattle.ssi_opt.specs.Outputs.{OutputText}
use Rattle.ssi_terms.specs.declared.tree.Spot.{Spot}
use Rattle.ssi_terms.specs.declared.tree.CommandTree.{CommandTree}
use Rattle.ssi_terms.specs.declared.tree.ItemTree.{ItemTree, fold-ItemTree}
use Rattle.ssi_terms.specs.declared.tree.ItemTree.TheOpen.{ItemTree-F, CondTree-F}
use Rattle.ssi_terms.specs.declared.tree.CondTree.{CondTree, fold-CondTree}
use Rattle.ssi_terms.specs.declared.tree.PartTree.{PartTree, fold-PartTree}
use Rattle.ssi_terms.specs.declared.tree.PartTree.TheOpen.{PartTree-F, BodyTree-F}
use Rattle.ssi_terms.specs.declared.tree.BodyTree.{BodyTree, fold-BodyTree}
use Rattle.ssi_names.specs.Texts.{characters, number}
use Rattle.ssi_names.specs.Words.{kind_of, fact_of_word, lie_of_word}

-- by the text, by the number of a fact of the identity with a name, and by the number of a name
module _ (text : List ℕ) (fact_of : FactKind → List ℕ → ℕ) (number_of : List ℕ → ℕ) where
  -- the number of the fact that is said of a name, and its value; fact 0 where nothing is said
  abbrev pub said_of : List ℕ → Option (FactKind × Bool) → ℕ × Bool
  said_of name None = (0, false)
  said_of name (Some said) = (fact_of said.0 name, said.1)

  -- the number of the fact that a word says of a name, and its value
  abbrev pub fact_at : Spot → Spot → ℕ × Bool
  fact_at name word = said_of (characters text name) (fact_of_word (kind_of (characters text name)) (characters text word))

  -- a test: points are controlled to a lie or free to go to it, or a fact has a value
  abbrev pub test_by : List ℕ → ℕ × Bool → Option Bool → CondItem
  test_by name said (Some lie) = item.Free (number_of name) lie
  test_by name said None = item.Lit said.0 said.1

  abbrev pub test_row : Spot → Spot → CondItem
  test_row name word = test_by (characters text name) (fact_at name word) (lie_of_word (kind_of (characters text name)) (characters text word))

  -- the number of a bit of a report; there are eight, and each number past the last counts as 8
  abbrev pub bit_number : Spot → ℕ
  bit_number bit = min (number text bit) 8

  -- whether a bit is 1, or whether it is 0
  abbrev pub bit_row : Spot → Spot → CondItem
  bit_row bit word = item.Bit (bit_number bit) (bytes_eq (characters text word) (codes "h"))

  -- an item of a condition: a test, a bit of a report, or a group
  abbrev pub item_step : ItemTree-F CondItem Cond → CondItem
  item_step (ItemTree-F.Test name word) = test_row name word
  item_step (ItemTree-F.Bit bit word) = bit_row bit word
  item_step (ItemTree-F.Any conds) = item.Any conds

  abbrev pub cond_step : CondTree-F CondItem Cond → Cond
  cond_step cond = record { items = cond.items }

  abbrev pub item_row : ItemTree → CondItem
  item_row = fold-ItemTree CondItem Cond item_step cond_step

  abbrev pub cond_row : CondTree → Cond
  cond_row = fold-CondTree CondItem Cond item_step cond_step

  -- a command
  abbrev pub command_row : CommandTree → Cmd
  command_row command = record { fact = (fact_at command.name command.word).0; value = (fact_at command.name command.word).1 }

  -- a part of a body
  abbrev pub part_step : PartTree-F BodyItem Body → BodyItem
  part_step (PartTree-F.Do command) = part.Do (command_row command)
  part_step (PartTree-F.If guard then_body else_body) = part.If (cond_row guard) then_body else_body

  abbrev pub body_step : BodyTree-F BodyItem Body → Body
  body_step body = record { items = body.parts }

  abbrev pub part_row : PartTree → BodyItem
  part_row = fold-PartTree BodyItem Body part_step body_step

  abbrev pub body_row : BodyTree → Body
  body_row = fold-BodyTree BodyItem Body part_step body_step

  -- a statement: its commands, and the guard under which they act
  abbrev pub statement_row : StatementText → StmtPlan
  statement_row statement = record { commands = map command_row statement.commands; guard = cond_row statement.guard }

  -- the bits that are sent to a module, of which one more has a condition
  abbrev pub with_output : List (Option Cond) → Spot × CondTree → List (Option Cond)
  with_output outputs bit = slice_set outputs (number text bit.0) (Some (cond_row bit.1))

  -- the eight bits that are sent to a module, by an entry of OPT
  abbrev pub outputs_row : OutputText → List (Option Cond)
  outputs_row entry = fold with_output (replicate 8 None) entry.bits
