-- The faults of conditions and bodies, in written order: a name before its word, a guard before its branches.
use Rattle.std.specs.Prelude.{ℕ, nat_le, Bool, ◌&&◌, false, not, List, [], ◌∷◌, ◌++◌, map, Option, Some, None, is_some}
use Rattle.ssi_terms.specs.declared.tree.Spot.{Spot}
use Rattle.ssi_terms.specs.declared.tree.CommandTree.{CommandTree}
use Rattle.ssi_terms.specs.declared.tree.ItemTree.{ItemTree, fold-ItemTree}
use Rattle.ssi_terms.specs.declared.tree.ItemTree.TheOpen.{ItemTree-F, CondTree-F}
use Rattle.ssi_terms.specs.declared.tree.CondTree.{CondTree, fold-CondTree}
use Rattle.ssi_terms.specs.declared.tree.PartTree.{PartTree, fold-PartTree}
use Rattle.ssi_terms.specs.declared.tree.PartTree.TheOpen.{PartTree-F, BodyTree-F}
use Rattle.ssi_terms.specs.declared.tree.BodyTree.{BodyTree, fold-BodyTree}
use Rattle.ssi_names.specs.declared.fault.Fault.{Fault}
use Rattle.ssi_names.specs.declared.rule_file.RuleFile.{RuleFile}
use Rattle.ssi_names.specs.Declarations.{Declared}
use Rattle.ssi_names.specs.Codes.{unknown, wrong_word, not_in_this_file, no_pfm, bad_pin, free_test_in_pfm}
use Rattle.ssi_names.specs.Occurrences.{at, one_by_one}
use Rattle.ssi_names.specs.Texts.{characters, number}
use Rattle.ssi_names.specs.Words.{kind_of, fact_of_word, lie_of_word, is_test, is_command, may_command, is_of_moves, is_of_inputs}

-- whether a test asks for a lie of points, and no rule says when they are free to go to it
abbrev pub lacks_rule : (Bool → Bool) → Option Bool → Bool
lacks_rule has_rule None = false
lacks_rule has_rule (Some lie) = not (has_rule lie)

-- no faults where there is no else-branch
abbrev pub else_faults : Option (List Fault) → List Fault
else_faults None = []
else_faults (Some faults) = faults

-- by what is declared, and by the file
module _ (declared : Declared) (file : RuleFile) where
  -- what stands at a place
  abbrev written : Spot → List ℕ
  written spot = characters declared.text spot

  -- a name in a condition or a command: not declared, as one of the kind that its first letter tells; and then whatever else its place asks
  abbrev pub named_faults : List (Bool × ℕ) → Spot → List Fault
  named_faults others name = at name ((not (declared.is_declared (kind_of (written name)) (written name)), unknown) ∷ others)

  -- the word of a test: no test of the kind; whether points are free to go, in PFM; whether declared points are free to go, and no rule says when
  abbrev pub test_word_faults : List ℕ → Spot → List Fault
  test_word_faults name word =
      at word (
      (not (is_test (kind_of name) (written word)), wrong_word)
      ∷ (is_of_moves file && is_some (lie_of_word (kind_of name) (written word)), free_test_in_pfm)
      ∷ (declared.is_declared (kind_of name) name && lacks_rule (declared.has_rule name) (lie_of_word (kind_of name) (written word)), no_pfm) ∷ [])

  -- the number of a bit of a report: not in IPT; above 7
  abbrev pub bit_faults : Spot → List Fault
  bit_faults bit = at bit ((not (is_of_inputs file), not_in_this_file) ∷ (nat_le 8 (number declared.text bit), bad_pin) ∷ [])

  -- the word of a command: no command of the kind; not allowed in this file
  abbrev pub command_word_faults : List ℕ → Spot → List Fault
  command_word_faults name word =
      at word (
      (not (is_command (kind_of name) (written word)), wrong_word)
      ∷ (not (may_command file (fact_of_word (kind_of name) (written word))), not_in_this_file) ∷ [])

  -- a test
  abbrev pub test_faults : Spot → Spot → List Fault
  test_faults name word = named_faults [] name ++ test_word_faults (written name) word

  -- an item of a condition: a test, a bit of a report, or a group
  abbrev pub item_step : ItemTree-F (List Fault) (List Fault) → List Fault
  item_step (ItemTree-F.Test name word) = test_faults name word
  item_step (ItemTree-F.Bit bit word) = bit_faults bit
  item_step (ItemTree-F.Any conds) = one_by_one conds

  -- a condition: its items one after another
  abbrev pub cond_step : CondTree-F (List Fault) (List Fault) → List Fault
  cond_step cond = one_by_one cond.items

  abbrev pub item_faults : ItemTree → List Fault
  item_faults = fold-ItemTree (List Fault) (List Fault) item_step cond_step

  abbrev pub cond_faults : CondTree → List Fault
  cond_faults = fold-CondTree (List Fault) (List Fault) item_step cond_step

  -- a command, and whatever else its place asks of its name
  abbrev pub command_faults : List (Bool × ℕ) → CommandTree → List Fault
  command_faults others command = named_faults others command.name ++ command_word_faults (written command.name) command.word

  -- commands one after another; the name of the first has whatever else its place asks
  abbrev pub commands_faults : List (Bool × ℕ) → List CommandTree → List Fault
  commands_faults others [] = []
  commands_faults others (command ∷ commands) = command_faults others command ++ one_by_one (map (command_faults []) commands)

  -- a part of a body: a command, or a choice
  abbrev pub part_step : PartTree-F (List Fault) (List Fault) → List Fault
  part_step (PartTree-F.Do command) = command_faults [] command
  part_step (PartTree-F.If guard then_body else_body) = cond_faults guard ++ then_body ++ else_faults else_body

  -- a body: its parts one after another
  abbrev pub body_step : BodyTree-F (List Fault) (List Fault) → List Fault
  body_step body = one_by_one body.parts

  abbrev pub part_faults : PartTree → List Fault
  part_faults = fold-PartTree (List Fault) (List Fault) part_step body_step

  abbrev pub body_faults : BodyTree → List Fault
  body_faults = fold-BodyTree (List Fault) (List Fault) part_step body_step
