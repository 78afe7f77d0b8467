-- Entries of the files of rules that are spelled and have no faults: their rows are well.
use Rattle.std.proofs.Common.{◌≡◌, ℕ, ◌<◌, Bool, true, false, not, List, [], ◌∷◌, ◌++◌, length, map, replicate, Option, Some, None, cond, ◌∙◌}
use Rattle.std.specs.Prelude.{All, IfSome, fold, nat_le, slice_set, unwrap_or}
use Rattle.std.specs.List.{find}
use Rattle.std.specs.Option.{option_map}
use Rattle.std.proofs.lemmas.Bool.{leb-false}
use Rattle.std.proofs.lemmas.List.{length-replicate, length-set}
use Rattle.std.proofs.lemmas.List.Elements.{All-head, All-tail, All-replicate, All-set}
use Rattle.ssi_identities.specs.declared.fact.Kind.{Kind}
use Rattle.ssi_identities.specs.declared.rule.Cond.{Cond}
use Rattle.ssi_identities.specs.Allowed.{CondScope, IsWellCond, IsWellBody}
use Rattle.ssi_identities.specs.Wells.{scope_of_moves, scope_of_conds, scope_of_decisions, scope_of_inputs, AreWellOutputs, IsWellStatement}
use Rattle.ssi_fop.specs.Statements.{StatementText}
use Rattle.ssi_ipt.specs.Inputs.{InputsText}
use Rattle.ssi_opt.specs.Outputs.{OutputText, OutputsText}
use Rattle.ssi_pfm.specs.Rules.{RulesText}
use Rattle.ssi_lexer.specs.Languages.{Listed, last, and_more}
use Rattle.ssi_lexer.specs.Lexemes.{Lexeme}
use Rattle.ssi_terms.specs.Grammar.{SpellsCommand}
use Rattle.ssi_terms.specs.declared.tree.BodyTree.{BodyTree}
use Rattle.ssi_terms.specs.declared.tree.CommandTree.{CommandTree}
use Rattle.ssi_terms.specs.declared.tree.CondTree.{CondTree}
use Rattle.ssi_terms.specs.declared.tree.Spot.{Spot}
use Rattle.ssi_names.specs.Bodies.{body_faults, cond_faults, commands_faults, command_word_faults, command_faults, named_faults}
use Rattle.ssi_names.specs.BodyRows.{outputs_row}
use Rattle.ssi_names.specs.Codes.{unknown, too_many}
use Rattle.ssi_names.specs.declared.rule_file.RuleFile.TheVariants.{Requests, Moves, Statements, Outputs, Inputs}
use Rattle.ssi_names.specs.Declarations.{Declared, declared, declared_in}
use Rattle.ssi_names.specs.Faults as f
use Rattle.ssi_names.specs.Formed.{IsSpelledBody, IsSpelledCond, AreSpelledCommands}
use Rattle.ssi_names.specs.Occurrences.{in_order, one_by_one}
use Rattle.ssi_names.specs.Rows.{body, condition, counts_by, fact_by_name, input_at, move_row, number_by_name, outputs_at, request_row, statement_row, resolved}
use Rattle.ssi_names.specs.SourceTexts.{SourceText}
use Rattle.ssi_names.specs.Texts.{characters, number}
use Rattle.ssi_names.specs.Words.{kind_of}
use Rattle.ssi_names.proofs.Fine.{no_front, no_back, first_fine, each_fine}
use Rattle.ssi_names.proofs.WellBodies.{body_well, commands_well}
use Rattle.ssi_names.proofs.WellConds.{cond_well}
use Rattle.ssi_names.proofs.WellScopes.{moves_allow, requests_allow, statements_allow, outputs_allow, inputs_allow}

-- ---- what is found

found_by : {X : Type 0} (P : X → Type 0) (x : X) (here : Bool) (o : Option X) → P x → IfSome o P → IfSome (cond here (Some x) o) P
found_by P x true o one rest = one
found_by P x false o one rest = rest

-- what holds of all holds of the one that is found
found_all : {X : Type 0} (P : X → Type 0) (p : X → Bool) (xs : List X) → All P xs → IfSome (find p xs) P
found_all P p [] all = tt
found_all P p (x ∷ xs) all = found_by P x (p x) (find p xs) (All-head P x xs all) (found_all P p xs (All-tail P x xs all))

made_if : {X Y : Type 0} (P : Y → Type 0) (make : X → Y) (o : Option X) → IfSome o (λ x. P (make x)) → IfSome (option_map make o) P
made_if P make None one = tt
made_if P make (Some x) one = one

made_or : {X Y : Type 0} (P : Y → Type 0) (make : X → Y) (o : Option X) (other : Y) → IfSome o (λ x. P (make x)) → P other → P (unwrap_or (option_map make o) other)
made_or P make None other one rest = rest
made_or P make (Some x) other one rest = one

-- ---- rows of entries

-- bits that are set one after another to well conditions
outputs_by : {X : Type 0} (scope : CondScope) (bit_of : X → ℕ) (make : X → Cond) (bits : List X) (outputs : List (Option Cond)) → length outputs ≡ 8 → All (λ bit. IsWellCond scope (make bit)) bits
    → All (λ output. IfSome output (IsWellCond scope)) outputs → AreWellOutputs scope (fold (λ before bit. slice_set before (bit_of bit) (Some (make bit))) outputs bits)
outputs_by scope bit_of make [] outputs eight all each = record { eight = eight; each = each }
outputs_by scope bit_of make (bit ∷ bits) outputs eight all each =
    let P = IsWellCond scope in
    outputs_by scope bit_of make bits (slice_set outputs (bit_of bit) (Some (make bit))) (length-set outputs (bit_of bit) (Some (make bit)) ∙ eight) (All-tail (λ bit. P (make bit)) bit bits all)
    (All-set (λ output. IfSome output P) outputs (bit_of bit) (Some (make bit)) (All-head (λ bit. P (make bit)) bit bits all) each)

-- a text and the tree of its source
module _ (text : List ℕ) (tree : SourceText) where
  abbrev names : Kind → List (List ℕ)
  names = declared text tree

  abbrev d : Declared
  d = declared_in text tree

  -- the body of a request
  pub request_well : (earlier : List (Spot × BodyTree)) (entry : Spot × BodyTree) → f.request_faults d earlier entry ≡ []
      → IsSpelledBody entry.1 → IsWellBody (scope_of_decisions (resolved text tree)) (request_row text names entry).body
  request_well earlier entry none spelled =
      body_well d names Requests (scope_of_decisions (resolved text tree)) (requests_allow text tree) entry.1 spelled
      (no_back (f.request_name_faults d earlier entry.0) (body_faults d Requests entry.1) none)

  -- the condition of points for a move
  move_well : (earlier : RulesText) (rule : Spot × Spot × CondTree) → f.move_faults d earlier rule ≡ []
      → IsSpelledCond rule.2 → IsWellCond (scope_of_moves (resolved text tree)) (condition text names rule.2)
  move_well earlier rule none spelled =
      cond_well d names Moves (scope_of_moves (resolved text tree)) (moves_allow text tree) rule.2 spelled
      (no_back _ (cond_faults d Moves rule.2) none)

  -- where the file has no faults, for each points and lie
  pub moves_well : in_order (f.move_faults d) [] tree.free ≡ [] → All (λ rule. IsSpelledCond rule.2) tree.free
      → (name : List ℕ) (lie : Bool) → IfSome (move_row text names tree.free name lie) (IsWellCond (scope_of_moves (resolved text tree)))
  moves_well none spelled name lie =
      let P = λ (rule : Spot × Spot × CondTree). IsWellCond (scope_of_moves (resolved text tree)) (condition text names rule.2) in
      let fine = each_fine (f.move_faults d) (λ (rule : Spot × Spot × CondTree). IsSpelledCond rule.2 → P rule) move_well [] tree.free none in
      made_if (IsWellCond (scope_of_moves (resolved text tree))) (λ (rule : Spot × Spot × CondTree). condition text names rule.2) (find _ tree.free)
      (found_all P _ tree.free (λ k d within. fine k d within (spelled k d within)))

  -- a statement
  pub statement_well : (earlier : List StatementText) (statement : StatementText) → f.statement_faults d earlier statement ≡ []
      → AreSpelledCommands statement.commands → IsSpelledCond statement.guard → IsWellStatement (scope_of_decisions (resolved text tree)) (statement_row text names statement)
  statement_well earlier statement none commands guard =
      let others = (nat_le 4096 (length earlier), too_many) ∷ [] in
      let first = commands_faults d Statements others statement.commands in
      let second = cond_faults d Statements statement.guard in
      record {
        guard = cond_well d names Statements (scope_of_conds (resolved text tree) 0) (statements_allow text tree).guards statement.guard guard (no_back first second none);
        commands = commands_well d names Statements (scope_of_decisions (resolved text tree)) (statements_allow text tree) others statement.commands commands (no_front first second none);
      }

  first_room : (full : Bool) (x : CommandTree) (xs : List CommandTree) → commands_faults d Statements ((full, too_many) ∷ []) (x ∷ xs) ≡ [] → full ≡ false
  first_room full x xs none =
      let called = characters text x.name in
      let unknown_name = not (d.is_declared (kind_of called) called) in
      let name = named_faults d Statements ((full, too_many) ∷ []) x.name in
      let word = command_word_faults d Statements called x.word in
      let rest = one_by_one (map (command_faults d Statements []) xs) in
      let first = first_fine x.name unknown_name unknown ((full, too_many) ∷ []) (no_front name word (no_front (name ++ word) rest none)) in
      (first_fine x.name full too_many [] first.1).0

  -- the name of the first of some commands without faults has room
  room_by_first : (full : Bool) (commands : List CommandTree) (tokens : List Lexeme) → Listed CommandTree SpellsCommand commands tokens
      → commands_faults d Statements ((full, too_many) ∷ []) commands ≡ [] → full ≡ false
  room_by_first full commands tokens (last x u spells) none = first_room full x [] none
  room_by_first full commands tokens (and_more x xs m u v spells between rest) none = first_room full x xs none

  -- where it has no faults, there is room for it
  pub statement_room : (earlier : List StatementText) (statement : StatementText) → f.statement_faults d earlier statement ≡ []
      → AreSpelledCommands statement.commands → length earlier < 4096
  statement_room earlier statement none commands =
      let full = nat_le 4096 (length earlier) in
      leb-false 4096 (length earlier) (room_by_first full statement.commands commands.tokens commands.spelled
      (no_front (commands_faults d Statements ((full, too_many) ∷ []) statement.commands)
      (cond_faults d Statements statement.guard) none))

  -- ---- modules

  -- the bits of an entry
  output_well : (earlier : OutputsText) (entry : OutputText) → f.output_faults d earlier entry ≡ []
      → All (λ bit. IsSpelledCond bit.1) entry.bits → AreWellOutputs (scope_of_conds (resolved text tree) 0) (outputs_row text (fact_by_name (counts_by names) names) (number_by_name names) entry)
  output_well earlier entry none spelled =
      let judge = f.output_bit_faults d in
      let P = IsWellCond (scope_of_conds (resolved text tree) 0) in
      let bits = no_back (f.block_address_faults d (map (λ e. e.address) earlier) entry.address) (in_order judge [] entry.bits) none in
      let fine = each_fine judge (λ (bit : Spot × CondTree). IsSpelledCond bit.1 → P (condition text names bit.1))
      (λ before bit so spells. cond_well d names Outputs (scope_of_conds (resolved text tree) 0) (outputs_allow text tree) bit.1 spells
      (no_back _ (cond_faults d Outputs bit.1) so)) [] entry.bits bits
      in
      outputs_by (scope_of_conds (resolved text tree) 0) (λ bit. number text bit.0) (λ bit. condition text names bit.1) entry.bits (replicate 8 None) (length-replicate {A = Option Cond} 8 None) (λ k d within. fine k d within (spelled k d within))
      (All-replicate (λ output. IfSome output P) 8 None tt)

  -- where the file has no faults, those that are sent to each address
  pub outputs_well : in_order (f.output_faults d) [] tree.outputs ≡ [] → All (λ entry. All (λ bit. IsSpelledCond bit.1) entry.bits) tree.outputs
      → (address : List ℕ) → AreWellOutputs (scope_of_conds (resolved text tree) 0) (outputs_at text names tree.outputs address)
  outputs_well none spelled address =
      let make = outputs_row text (fact_by_name (counts_by names) names) (number_by_name names) in
      let P = AreWellOutputs (scope_of_conds (resolved text tree) 0) in
      let fine = each_fine (f.output_faults d) (λ (entry : OutputText). All (λ bit. IsSpelledCond bit.1) entry.bits → P (make entry)) output_well [] tree.outputs none in
      made_or P make (find _ tree.outputs) (replicate 8 None) (found_all (λ (entry : OutputText). P (make entry)) _ tree.outputs (λ k d within. fine k d within (spelled k d within)))
      (record { eight = length-replicate {A = Option Cond} 8 None; each = All-replicate (λ output. IfSome output (IsWellCond (scope_of_conds (resolved text tree) 0))) 8 None tt })

  -- the body of an input
  input_well : (earlier : InputsText) (entry : Spot × BodyTree) → f.input_faults d earlier entry ≡ []
      → IsSpelledBody entry.1 → IsWellBody (scope_of_inputs (resolved text tree)) (body text names entry.1)
  input_well earlier entry none spelled =
      body_well d names Inputs (scope_of_inputs (resolved text tree)) (inputs_allow text tree) entry.1 spelled
      (no_back (f.block_address_faults d (map (λ e. e.0) earlier) entry.0) (body_faults d Inputs entry.1) none)

  -- where the file has no faults, that of each address
  pub inputs_well : in_order (f.input_faults d) [] tree.inputs ≡ [] → All (λ entry. IsSpelledBody entry.1) tree.inputs
      → (address : List ℕ) → IfSome (input_at text names tree.inputs address) (IsWellBody (scope_of_inputs (resolved text tree)))
  inputs_well none spelled address =
      let P = λ (entry : Spot × BodyTree). IsWellBody (scope_of_inputs (resolved text tree)) (body text names entry.1) in
      let fine = each_fine (f.input_faults d) (λ (entry : Spot × BodyTree). IsSpelledBody entry.1 → P entry) input_well [] tree.inputs none in
      made_if (IsWellBody (scope_of_inputs (resolved text tree))) (λ (entry : Spot × BodyTree). body text names entry.1) (find _ tree.inputs)
      (found_all P _ tree.inputs (λ k d within. fine k d within (spelled k d within)))
