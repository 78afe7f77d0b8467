-- Bodies and commands that are spelled and have no faults are well.
use Rattle.std.proofs.Common.{◌≡◌, ℕ, zero, suc, ◌+◌, ◌*◌, ◌≤◌, Bool, true, not, List, [], ◌∷◌, ◌++◌, length, map, Option, refl, ap, sym, subst, ◌∙◌, arith}
use Rattle.std.specs.Cmp.Derive.{both_true}
use Rattle.std.specs.Option.{option_map}
use Rattle.std.proofs.Math.Nat.{max-le}
use Rattle.std.proofs.lemmas.Bool.{le-leb}
use Rattle.std.proofs.lemmas.List.{length-append, length-map}
use Rattle.ssi_identities.specs.Allowed.{BodyScope, else_within, part_within, body_within, is_part_within, is_body_within, else_levels, part_levels, body_levels, part_depth, body_depth, IsWellBody, body_of_commands}
use Rattle.ssi_identities.specs.Codes.{with_length, else_code, part_code, body_code, code_of_part, code_of_body}
use Rattle.ssi_identities.specs.declared.fact.Kind.{Kind}
use Rattle.ssi_identities.specs.declared.rule.BodyItem.{BodyItem}
use Rattle.ssi_identities.specs.declared.rule.BodyItem.TheVariants as part
use Rattle.ssi_identities.specs.declared.rule.Body.{Body}
use Rattle.ssi_lexer.specs.Languages.{Listed, last, and_more, Optional, absent, present}
use Rattle.ssi_lexer.specs.Lexemes.{Lexeme}
use Rattle.ssi_lexer.specs.TokenTests.{comma}
use Rattle.ssi_terms.specs.declared.tree.CommandTree.{CommandTree}
use Rattle.ssi_terms.specs.declared.tree.CondTree.{CondTree}
use Rattle.ssi_terms.specs.declared.tree.PartTree.{PartTree}
use Rattle.ssi_terms.specs.declared.tree.PartTree.TheVariants as p
use Rattle.ssi_terms.specs.declared.tree.BodyTree.{BodyTree}
use Rattle.ssi_terms.specs.Grammar.{deepest, SpellsCond, SpellsCommand, a_command, PartOf, a_do, an_if, BodyOf, ElseOf, an_else, ChoiceOf, a_choice, SpellsChoice, SpellsBodyBy}
use Rattle.ssi_names.specs.Bodies as f
use Rattle.ssi_names.specs.BodyRows as r
use Rattle.ssi_names.specs.Codes.{unknown}
use Rattle.ssi_names.specs.declared.fault.Fault.{Fault}
use Rattle.ssi_names.specs.Declarations.{Declared}
use Rattle.ssi_names.specs.declared.rule_file.RuleFile.{RuleFile}
use Rattle.ssi_names.specs.Formed.{IsSpelledBody, AreSpelledCommands}
use Rattle.ssi_names.specs.Occurrences.{at, one_by_one}
use Rattle.ssi_names.specs.Rows.{number_by_name}
use Rattle.ssi_names.specs.Texts.{characters}
use Rattle.ssi_names.specs.Words.{kind_of}
use Rattle.ssi_names.proofs.BodyTrees.{tree_body_is, tree_do_is, tree_if_is}
use Rattle.ssi_names.proofs.Fine.{no_front, no_back, first_fine}
use Rattle.ssi_names.proofs.GoodTrees.{Measures, IsGood, listed_good}
use Rattle.ssi_names.proofs.RowFolds.{row_of_do, row_of_if, row_of_body}
use Rattle.ssi_names.proofs.WellConds.{conds, cond_spelled}
use Rattle.ssi_names.proofs.WellWords.{AllowsBodies, known, listing, facts, command_allowed}

-- how long the code of a choice is
choice_long : (guard body other : List ℕ) → length (0x22 ∷ with_length (with_length guard ++ (with_length body ++ other))) ≡ 13 + length guard + length body + length other
choice_long guard body other = omega (arith, length-append (with_length guard) (with_length body ++ other), length-append (with_length body) other)

-- a body, by what is declared, by the names of each kind, by its file, and by what it may name
module _ (d : Declared) (names : Kind → List (List ℕ)) (file : RuleFile) (scope : BodyScope) (allows : AllowsBodies d names file scope) where
  -- the row of a part and of a body
  abbrev part_row : PartTree → BodyItem
  part_row = r.part_row d.text (facts names) (number_by_name names)

  abbrev body_row : BodyTree → Body
  body_row = r.body_row d.text (facts names) (number_by_name names)

  -- what is measured of guards, parts and bodies
  abbrev guards : Measures CondTree
  guards = conds d names file scope.guards allows.guards

  abbrev parts : Measures PartTree
  parts = record {
    faults = f.part_faults (listing d names) file;
    within = λ part. is_part_within scope (part_row part);
    depth = λ part. part_depth (part_row part);
    code = λ part. code_of_part (part_row part);
  }

  abbrev bodies : Measures BodyTree
  bodies = record {
    faults = f.body_faults (listing d names) file;
    within = λ body. is_body_within scope (body_row body);
    depth = λ body. body_depth (body_row body);
    code = λ body. code_of_body (body_row body);
  }

  -- a command
  command_good : (most : ℕ) (x : CommandTree) (tokens : List Lexeme) → SpellsCommand x tokens → IsGood PartTree parts most (p.Do x) tokens
  command_good most x tokens (a_command n w name word) =
      let no_depth = row_of_do d.text (facts names) (number_by_name names) ℕ ℕ part_levels body_levels x in
      let three = ap length (row_of_do d.text (facts names) (number_by_name names) (List ℕ) (List ℕ) part_code body_code x) in
      record {
        within = λ none.
            row_of_do d.text (facts names) (number_by_name names) Bool Bool (part_within scope) body_within x
            ∙ command_allowed d names file scope allows x
            (sym (tree_do_is (List Fault) (List Fault) (f.part_step (listing d names) file) (f.body_step (listing d names) file) x) ∙ none);
        depth = omega (arith, no_depth);
        short = omega (arith, three);
      }

  -- parts and bodies, where choices in them go so deep
  module _ (Choice : PartTree → List Lexeme → Type 0) (most : ℕ) (choices : (x : PartTree) (tokens : List Lexeme) → Choice x tokens → IsGood PartTree parts most x tokens) where
    part_good : (x : PartTree) (tokens : List Lexeme) → PartOf Choice x tokens → IsGood PartTree parts most x tokens
    part_good x tokens (a_do command u spells) = command_good most command u spells
    part_good x tokens (an_if part u spells) = choices part u spells

    body_good : (x : BodyTree) (tokens : List Lexeme) → BodyOf Choice x tokens → IsGood BodyTree bodies most x tokens
    body_good x tokens spelled =
        let all = listed_good PartTree parts most comma (PartOf Choice) part_good x.parts tokens spelled in
        let deep = row_of_body d.text (facts names) (number_by_name names) ℕ ℕ part_levels body_levels x in
        let long = ap length (row_of_body d.text (facts names) (number_by_name names) (List ℕ) (List ℕ) part_code body_code x) in
        record {
          within = λ none.
              row_of_body d.text (facts names) (number_by_name names) Bool Bool (part_within scope) body_within x
              ∙ both_true (le-leb 1 (length (map parts.within x.parts)) (omega (arith, all.some, length-map x.parts parts.within)))
              (all.within (sym (tree_body_is (List Fault) (List Fault) (f.part_step (listing d names) file) (f.body_step (listing d names) file) x.parts) ∙ none));
          depth = omega (arith, deep, all.depth);
          short = omega (arith, long, all.short);
        }

  -- an else-branch, if there is one
  record IsGoodElse (most : ℕ) (x : Option BodyTree) (tokens : List Lexeme) : Type 0 where
    within : f.else_faults (option_map bodies.faults x) ≡ [] → else_within (option_map bodies.within x) ≡ true
    depth : else_levels (option_map bodies.depth x) ≤ most
    short : length (else_code (option_map bodies.code x)) ≤ 5 * length tokens

  -- a choice, where its branches go so deep
  module _ (Branch : BodyTree → List Lexeme → Type 0) (most : ℕ) (branches : (x : BodyTree) (tokens : List Lexeme) → Branch x tokens → IsGood BodyTree bodies most x tokens) where
    else_good : (x : Option BodyTree) (tokens : List Lexeme) → Optional BodyTree (ElseOf Branch) x tokens → IsGoodElse most x tokens
    else_good x tokens absent = record { within = λ none. refl; depth = omega arith; short = omega arith }
    else_good x tokens (present y u (an_else m body v word spells)) =
        let good = branches body v spells in
        record { within = good.within; depth = good.depth; short = omega (arith, good.short) }

    choice_good : (x : PartTree) (tokens : List Lexeme) → ChoiceOf (SpellsCond deepest) Branch x tokens → IsGood PartTree parts (suc most) x tokens
    choice_good x tokens (a_choice o m e guard body other u v w begins guarded then first otherwise end) =
        let asked = cond_spelled d names file scope.guards allows.guards deepest guard u guarded in
        let one = branches body v first in
        let two = else_good other w otherwise in
        let g = guards.faults guard in
        let b = bodies.faults body in
        let h = f.else_faults (option_map bodies.faults other) in
        let deep = row_of_if d.text (facts names) (number_by_name names) ℕ ℕ part_levels body_levels guard body other in
        let most_of_both = max-le one.depth two.depth in
        let is = ap length (row_of_if d.text (facts names) (number_by_name names) (List ℕ) (List ℕ) part_code body_code guard body other) in
        let long = choice_long (guards.code guard) (bodies.code body) (else_code (option_map bodies.code other)) in
        let all = length-append u (m ∷ (v ++ (w ++ (e ∷ [])))) in
        let behind = length-append v (w ++ (e ∷ [])) in
        let last = length-append w (e ∷ []) in
        record {
          within = λ none.
              let parts_none : g ++ b ++ h ≡ [] =
              sym (tree_if_is (List Fault) (List Fault) (f.part_step (listing d names) file) (f.body_step (listing d names) file) guard body other) ∙ none
              in
              let front = no_front (g ++ b) h parts_none in
              row_of_if d.text (facts names) (number_by_name names) Bool Bool (part_within scope) body_within guard body other
              ∙ both_true (asked.within (no_front g b front)) (both_true (le-leb (guards.depth guard) 8 asked.depth)
              (both_true (one.within (no_back g b front)) (two.within (no_back (g ++ b) h parts_none))));
          depth = omega (arith, deep, most_of_both);
          short = omega (arith, is, long, asked.short, one.short, two.short, all, behind, last);
        }

  choice_spelled : (choices : ℕ) (x : PartTree) (tokens : List Lexeme) → SpellsChoice deepest choices x tokens → IsGood PartTree parts choices x tokens
  choice_spelled zero x tokens spelled = absurd spelled
  choice_spelled (suc choices) x tokens spelled =
      choice_good (SpellsBodyBy deepest choices) choices (body_good (SpellsChoice deepest choices) choices (choice_spelled choices)) x tokens spelled

  -- a body that few tokens spell is well where it has no faults
  pub body_well : (x : BodyTree) → IsSpelledBody x → f.body_faults (listing d names) file x ≡ [] → IsWellBody scope (body_row x)
  body_well x spelled none =
      let good = body_good (SpellsChoice deepest deepest) deepest (choice_spelled deepest) x spelled.tokens spelled.spelled in
      record { within = good.within none; depth = good.depth; short = omega (arith, good.short, spelled.few) }

  -- ---- commands alone

  -- commands as parts of a body
  abbrev as_body : List CommandTree → BodyTree
  as_body commands = record { parts = map (λ command. p.Do command) commands }

  as_parts : (xs : List CommandTree) (tokens : List Lexeme) → Listed CommandTree SpellsCommand xs tokens → Listed PartTree (PartOf (SpellsChoice deepest deepest)) (as_body xs).parts tokens
  as_parts xs tokens (last x u spells) = last (p.Do x) u (a_do x u spells)
  as_parts xs tokens (and_more x ys m u v spells between rest) = and_more (p.Do x) (as_body ys).parts m u v (a_do x u spells) between (as_parts ys v rest)

  command_faults_are : (xs : List CommandTree) → one_by_one (map parts.faults (as_body xs).parts) ≡ one_by_one (map (f.command_faults (listing d names) file []) xs)
  command_faults_are [] = refl
  command_faults_are (x ∷ xs) =
      ap (λ faults. faults ++ one_by_one (map parts.faults (as_body xs).parts)) (tree_do_is (List Fault) (List Fault) (f.part_step (listing d names) file) (f.body_step (listing d names) file) x)
      ∙ ap (λ faults. f.command_faults (listing d names) file [] x ++ faults) (command_faults_are xs)

  command_rows_are : (xs : List CommandTree) → map part_row (as_body xs).parts ≡ map (λ command. part.Do command) (map (r.command_row d.text (facts names) (number_by_name names)) xs)
  command_rows_are [] = refl
  command_rows_are (x ∷ xs) =
      ap (λ row. row ∷ map part_row (as_body xs).parts) (tree_do_is BodyItem Body (r.part_step d.text (facts names) (number_by_name names)) (r.body_step d.text (facts names) (number_by_name names)) x)
      ∙ ap (λ rows. part.Do (r.command_row d.text (facts names) (number_by_name names) x) ∷ rows) (command_rows_are xs)

  -- the first command of commands without faults has none, also where more is asked of its name
  first_command : (others : List (Bool × ℕ)) (x : CommandTree) → f.named_faults (listing d names) file others x.name ≡ [] → f.named_faults (listing d names) file [] x.name ≡ []
  first_command others x none =
      let called = characters d.text x.name in
      let test = not (known names (kind_of called) called) in
      ap (λ b. at x.name ((b, unknown) ∷ [])) (first_fine x.name test unknown others none).0

  no_commands : (others : List (Bool × ℕ)) (xs : List CommandTree) → f.commands_faults (listing d names) file others xs ≡ [] → one_by_one (map (f.command_faults (listing d names) file []) xs) ≡ []
  no_commands others [] none = refl
  no_commands others (x ∷ xs) none =
      let name = f.named_faults (listing d names) file others x.name in
      let word = f.command_word_faults (listing d names) file (characters d.text x.name) x.word in
      let rest = one_by_one (map (f.command_faults (listing d names) file []) xs) in
      let front = no_front (name ++ word) rest none in
      ap (λ faults. faults ++ word ++ rest) (first_command others x (no_front name word front)) ∙ ap (λ faults. faults ++ rest) (no_back name word front) ∙ no_back (name ++ word) rest none

  -- commands that few tokens spell are well where they have no faults
  pub commands_well : (others : List (Bool × ℕ)) (xs : List CommandTree) → AreSpelledCommands xs → f.commands_faults (listing d names) file others xs ≡ []
      → IsWellBody scope (body_of_commands (map (r.command_row d.text (facts names) (number_by_name names)) xs))
  commands_well others xs spelled none =
      let fine = tree_body_is (List Fault) (List Fault) (f.part_step (listing d names) file) (f.body_step (listing d names) file) (as_body xs).parts
      ∙ command_faults_are xs ∙ no_commands others xs none
      in
      let rows = tree_body_is BodyItem Body (r.part_step d.text (facts names) (number_by_name names)) (r.body_step d.text (facts names) (number_by_name names)) (as_body xs).parts
      ∙ ap (λ items. record { items = items }) (command_rows_are xs)
      in
      subst (IsWellBody scope) rows (body_well (as_body xs) (record { tokens = spelled.tokens; spelled = as_parts xs spelled.tokens spelled.spelled; few = spelled.few }) fine)
