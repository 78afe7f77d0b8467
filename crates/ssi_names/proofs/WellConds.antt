-- Conditions that are spelled and have no faults are well.
use Rattle.std.proofs.Common.{◌≡◌, ℕ, zero, suc, Bool, List, [], ◌∷◌, length, map, Option, Some, None, ap, sym, ◌∙◌, arith}
use Rattle.std.specs.Prelude.{codes}
use Rattle.std.specs.Cmp.Derive.{both_true}
use Rattle.std.proofs.lemmas.Bool.{le-leb}
use Rattle.std.proofs.lemmas.List.{length-append, length-map}
use Rattle.ssi_identities.specs.Allowed.{CondScope, item_within, cond_within, is_item_within, is_within, item_levels, cond_levels, item_depth, cond_depth, IsWellCond}
use Rattle.ssi_identities.specs.Codes.{item_code, cond_code, code_of_item, code_of_cond}
use Rattle.ssi_identities.specs.declared.fact.Kind.{Kind}
use Rattle.ssi_identities.specs.declared.rule.CondItem.{CondItem}
use Rattle.ssi_identities.specs.declared.rule.Cond.{Cond}
use Rattle.ssi_identities.proofs.Conditions.{lit_is, free_is}
use Rattle.ssi_lexer.specs.Lexemes.{Lexeme}
use Rattle.ssi_lexer.specs.TokenTests.{comma, word}
use Rattle.ssi_terms.specs.declared.tree.ItemTree.{ItemTree}
use Rattle.ssi_terms.specs.declared.tree.ItemTree.TheVariants as t
use Rattle.ssi_terms.specs.declared.tree.CondTree.{CondTree}
use Rattle.ssi_terms.specs.Grammar.{deepest, ItemOf, a_test, a_bit, a_group, CondOf, GroupOf, the_alternatives, SpellsGroup, SpellsCond}
use Rattle.ssi_terms.specs.Tests.{spot_of}
use Rattle.ssi_names.specs.Bodies as f
use Rattle.ssi_names.specs.BodyRows as r
use Rattle.ssi_names.specs.declared.fault.Fault.{Fault}
use Rattle.ssi_names.specs.Declarations.{Declared}
use Rattle.ssi_names.specs.declared.rule_file.RuleFile.{RuleFile}
use Rattle.ssi_names.specs.Formed.{IsSpelledCond}
use Rattle.ssi_names.specs.Texts.{characters}
use Rattle.ssi_names.specs.Rows.{number_by_name}
use Rattle.ssi_names.specs.Words.{kind_of, lie_of_word}
use Rattle.ssi_names.proofs.CondTrees.{tree_cond_is, tree_test_is, tree_bit_is, tree_any_is}
use Rattle.ssi_names.proofs.GoodTrees.{Measures, IsGood, listed_good, several_good}
use Rattle.ssi_names.proofs.RowFolds.{row_of_test, row_of_bit, row_of_any, row_of_cond}
use Rattle.ssi_names.proofs.WellWords.{AllowsConds, listing, facts, test_allowed, bit_allowed}

-- a condition, by what is declared, by the names of each kind, by its file, and by what it may name
module _ (d : Declared) (names : Kind → List (List ℕ)) (file : RuleFile) (scope : CondScope) (allows : AllowsConds d names file scope) where
  -- the row of an item and of a condition
  abbrev item_row : ItemTree → CondItem
  item_row = r.item_row d.text (facts names) (number_by_name names)

  abbrev cond_row : CondTree → Cond
  cond_row = r.cond_row d.text (facts names) (number_by_name names)

  -- what is measured of them
  abbrev items : Measures ItemTree
  items = record {
    faults = f.item_faults (listing d names) file;
    within = λ item. is_item_within scope (item_row item);
    depth = λ item. item_depth (item_row item);
    code = λ item. code_of_item (item_row item);
  }

  abbrev pub conds : Measures CondTree
  conds = record {
    faults = f.cond_faults (listing d names) file;
    within = λ cond. is_within scope (cond_row cond);
    depth = λ cond. cond_depth (cond_row cond);
    code = λ cond. code_of_cond (cond_row cond);
  }

  -- a test has no groups and three bytes of code
  test_depth : (name : List ℕ) (said : ℕ × Bool) (lie : Option Bool) → item_depth (r.test_by d.text (facts names) (number_by_name names) name said lie) ≡ 0
  test_depth name said None = lit_is ℕ ℕ item_levels cond_levels said.0 said.1
  test_depth name said (Some lie) = free_is ℕ ℕ item_levels cond_levels (number_by_name names name) lie

  test_code : (name : List ℕ) (said : ℕ × Bool) (lie : Option Bool) → length (code_of_item (r.test_by d.text (facts names) (number_by_name names) name said lie)) ≡ 3
  test_code name said None = ap length (lit_is (List ℕ) (List ℕ) item_code cond_code said.0 said.1)
  test_code name said (Some lie) = ap length (free_is (List ℕ) (List ℕ) item_code cond_code (number_by_name names name) lie)

  -- items, where groups in them go so deep
  module _ (Group : List CondTree → List Lexeme → Type 0) (most : ℕ) (groups : (cs : List CondTree) (tokens : List Lexeme) → Group cs tokens → IsGood ItemTree items most (t.Any cs) tokens) where
    item_good : (x : ItemTree) (tokens : List Lexeme) → ItemOf Group x tokens → IsGood ItemTree items most x tokens
    item_good x tokens (a_test n w name word) =
        let called = characters d.text (spot_of n) in
        let said = r.fact_at d.text (facts names) (number_by_name names) (spot_of n) (spot_of w) in
        let lie = lie_of_word (kind_of called) (characters d.text (spot_of w)) in
        let no_depth = row_of_test d.text (facts names) (number_by_name names) ℕ ℕ item_levels cond_levels (spot_of n) (spot_of w) ∙ test_depth called said lie in
        let three = ap length (row_of_test d.text (facts names) (number_by_name names) (List ℕ) (List ℕ) item_code cond_code (spot_of n) (spot_of w)) ∙ test_code called said lie in
        record {
          within = λ none.
              row_of_test d.text (facts names) (number_by_name names) Bool Bool (item_within scope) cond_within (spot_of n) (spot_of w)
              ∙ test_allowed d names file scope allows (spot_of n) (spot_of w)
              (sym (tree_test_is (List Fault) (List Fault) (f.item_step (listing d names) file) (f.cond_step (listing d names) file) (spot_of n) (spot_of w)) ∙ none);
          depth = omega (arith, no_depth);
          short = omega (arith, three);
        }
    item_good x tokens (a_bit n w number word) =
        let no_depth = row_of_bit d.text (facts names) (number_by_name names) ℕ ℕ item_levels cond_levels (spot_of n) (spot_of w) in
        let three = ap length (row_of_bit d.text (facts names) (number_by_name names) (List ℕ) (List ℕ) item_code cond_code (spot_of n) (spot_of w)) in
        record {
          within = λ none.
              row_of_bit d.text (facts names) (number_by_name names) Bool Bool (item_within scope) cond_within (spot_of n) (spot_of w)
              ∙ bit_allowed d names file scope allows (spot_of n)
              (sym (tree_bit_is (List Fault) (List Fault) (f.item_step (listing d names) file) (f.cond_step (listing d names) file) (spot_of n) (spot_of w)) ∙ none);
          depth = omega (arith, no_depth);
          short = omega (arith, three);
        }
    item_good x tokens (a_group cs u group) = groups cs u group

    -- a condition
    cond_good : (x : CondTree) (tokens : List Lexeme) → CondOf Group x tokens → IsGood CondTree conds most x tokens
    cond_good x tokens spelled =
        let all = listed_good ItemTree items most comma (ItemOf Group) item_good x.items tokens spelled in
        let deep = row_of_cond d.text (facts names) (number_by_name names) ℕ ℕ item_levels cond_levels x in
        let long = ap length (row_of_cond d.text (facts names) (number_by_name names) (List ℕ) (List ℕ) item_code cond_code x) in
        record {
          within = λ none.
              row_of_cond d.text (facts names) (number_by_name names) Bool Bool (item_within scope) cond_within x
              ∙ both_true (le-leb 1 (length (map items.within x.items)) (omega (arith, all.some, length-map x.items items.within)))
              (all.within (sym (tree_cond_is (List Fault) (List Fault) (f.item_step (listing d names) file) (f.cond_step (listing d names) file) x.items) ∙ none));
          depth = omega (arith, deep, all.depth);
          short = omega (arith, long, all.short);
        }

  -- a group, where its alternatives go so deep
  group_good : (Alternative : CondTree → List Lexeme → Type 0) (most : ℕ) → ((x : CondTree) (tokens : List Lexeme) → Alternative x tokens → IsGood CondTree conds most x tokens)
      → (cs : List CondTree) (tokens : List Lexeme) → GroupOf Alternative cs tokens → IsGood ItemTree items (suc most) (t.Any cs) tokens
  group_good Alternative most each cs tokens (the_alternatives o e alternatives u opens between closes) =
      let all = several_good CondTree conds most (word (codes "or")) Alternative each alternatives u between in
      let deep = row_of_any d.text (facts names) (number_by_name names) ℕ ℕ item_levels cond_levels alternatives in
      let long = ap length (row_of_any d.text (facts names) (number_by_name names) (List ℕ) (List ℕ) item_code cond_code alternatives) in
      record {
        within = λ none.
            row_of_any d.text (facts names) (number_by_name names) Bool Bool (item_within scope) cond_within alternatives
            ∙ both_true (le-leb 2 (length (map conds.within alternatives)) (omega (arith, all.1, length-map alternatives conds.within)))
            (all.0.within (sym (tree_any_is (List Fault) (List Fault) (f.item_step (listing d names) file) (f.cond_step (listing d names) file) alternatives) ∙ none));
        depth = omega (arith, deep, all.0.depth);
        short = omega (arith, long, all.0.pieces, length-append u (e ∷ []));
      }

  group_spelled : (groups : ℕ) (cs : List CondTree) (tokens : List Lexeme) → SpellsGroup groups cs tokens → IsGood ItemTree items groups (t.Any cs) tokens
  group_spelled zero cs tokens spelled = absurd spelled
  group_spelled (suc groups) cs tokens spelled = group_good (SpellsCond groups) groups (cond_good (SpellsGroup groups) groups (group_spelled groups)) cs tokens spelled

  -- a condition that is spelled
  pub cond_spelled : (groups : ℕ) (x : CondTree) (tokens : List Lexeme) → SpellsCond groups x tokens → IsGood CondTree conds groups x tokens
  cond_spelled groups = cond_good (SpellsGroup groups) groups (group_spelled groups)

  -- one that few tokens spell is well where it has no faults
  pub cond_well : (x : CondTree) → IsSpelledCond x → f.cond_faults (listing d names) file x ≡ [] → IsWellCond scope (cond_row x)
  cond_well x spelled none =
      let good = cond_spelled deepest x spelled.tokens spelled.spelled in
      record { within = good.within none; depth = good.depth; short = omega (arith, good.short, spelled.few) }
