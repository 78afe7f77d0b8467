-- The conditions and bodies of a data set by their places: they are well, and their code is found.
use Rattle.std.proofs.Common.{◌≡◌, ℕ, ◌<◌, Bool, true, false, List, [], Option, Some, None, option_map, refl, sym, ap, subst, ◌∙◌, arith}
use Rattle.std.specs.Prelude.{if◌then◌else◌, is_some, option_and_then, slice_get, IfSome}
use Rattle.std.specs.Borrow.{Bor}
use Rattle.std.proofs.lemmas.Option.{slice_get_within, option_and_then_some}
use Rattle.ssi_identities.specs.declared.data_set.RequestRow.{RequestRow}
use Rattle.ssi_identities.specs.declared.fact.Counts.{Counts}
use Rattle.ssi_identities.specs.declared.fact.FactKind.{FactKind}
use Rattle.ssi_identities.specs.declared.rule.Cond.{Cond}
use Rattle.ssi_identities.specs.declared.rule.Body.{Body}
use Rattle.ssi_identities.specs.declared.rule.BodyItem.TheVariants.{If}
use Rattle.ssi_identities.specs.Allowed.{CondScope, BodyScope, IsWellCond, IsWellBody, body_of_commands, is_decided, is_reported, is_fact_of, is_number_of, body_of_statement}
use Rattle.ssi_identities.specs.Codes.{code_of_body, code_of_cond}
use Rattle.ssi_identities.specs.DataSets.{ModulePlan, Plan, StmtPlan, counts_of}
use Rattle.ssi_identities.specs.Facts.{Fact, fact_count_of, facts_of}
use Rattle.ssi_identities.specs.States.{State}
use Rattle.ssi_identities.specs.Steps.{effect_of, item_effect_of}
use Rattle.ssi_identities.specs.Values.{value_of}
use Rattle.ssi_identities.specs.Wells.{AreWellOutputs, IsWell, IsWellStatement, scope_of_conds, scope_of_decisions, scope_of_inputs, scope_of_moves}
use Rattle.ssi_identities.proofs.FactOrder.{all_facts}
use Rattle.ssi_identities.proofs.Laws.{effect_of_if, effect_of_items, effect_of_none}
use Rattle.ssi_image.specs.declared.places.BodyAt.{BodyAt}
use Rattle.ssi_image.specs.declared.places.BodyAt.TheVariants.{Request, Statement, Input}
use Rattle.ssi_image.specs.declared.places.CondAt.{CondAt}
use Rattle.ssi_image.specs.declared.places.CondAt.TheVariants.{Output, Free}
use Rattle.ssi_image.specs.Places.{body_at, cond_at, input_of}
use Rattle.ssi_image.specs.Shown.{IsStatementCode}
use Rattle.ssi_eval.specs.BodyCodes.{IsBodyScopeIn, IsBodyCode, IsSomeBodyCode}
use Rattle.ssi_eval.specs.CondCodes.{IsCondCode, IsSomeCondCode}
use Rattle.ssi_eval.proofs.Starting.{all_at, conds_scope, move_is_well, moves_scope}

-- ---- what may be named

-- a number of a fact of some kinds is below the count of facts
number_known : (is_kind : FactKind → Bool) (counts : Counts) (n : ℕ) → is_number_of is_kind counts n ≡ true → n < fact_count_of counts
number_known is_kind counts n is = by_fact (slice_get (facts_of counts) n) refl
  where
    by_fact : (fact : Option Fact) → slice_get (facts_of counts) n ≡ fact → n < fact_count_of counts
    by_fact None none = absurd (let no : false ≡ true = sym (ap (is_fact_of is_kind) none) ∙ is in cc)
    by_fact (Some fact) there = omega (arith, slice_get_within (facts_of counts) n fact there, all_facts counts)

decisions_in : (plan : Plan) → IsBodyScopeIn plan (scope_of_decisions plan)
decisions_in plan = record { guards = conds_scope plan 0 (omega arith); commands = number_known is_decided (counts_of plan) }

inputs_in : (plan : Plan) → IsBodyScopeIn plan (scope_of_inputs plan)
inputs_in plan = record { guards = conds_scope plan 8 (omega arith); commands = number_known is_reported (counts_of plan) }

-- ---- conditions

-- what the condition at a place may name
abbrev scope_at : Plan → CondAt → CondScope
scope_at plan (Output number bit) = scope_of_conds plan 0
scope_at plan (Free points lie) = scope_of_moves plan

-- the condition at a place is one of the data set
pub cond_there : (plan : Plan) (place : CondAt) (cond : Cond) (code : List ℕ) → IsWell plan → cond_at plan place ≡ Some cond → code ≡ code_of_cond cond → IsCondCode plan (scope_at plan place) cond code
cond_there plan (Output number bit) cond code well there is = record {
  scope_in = conds_scope plan 0 (omega arith);
  well = option_and_then_some (λ row. option_and_then (λ output. output) (slice_get row.outputs bit)) (slice_get plan.modules number) cond there
      (λ row found at. option_and_then_some (λ output. output) (slice_get row.outputs bit) cond at
      (λ output inner same. subst (λ (o : Option Cond). IfSome o (IsWellCond (scope_of_conds plan 0))) same
      (all_at (λ o. IfSome o (IsWellCond (scope_of_conds plan 0))) row.outputs bit output (all_at (λ (r : ModulePlan). AreWellOutputs (scope_of_conds plan 0) r.outputs) plan.modules number row well.rules.outputs found).each inner)));
  is = is;
}
cond_there plan (Free points lie) cond code well there is = record { scope_in = moves_scope plan; well = move_is_well plan points lie cond well there; is = is }

some_of : {X : Type 0} (o : Option X) → is_some o ≡ true → (x : X) × (o ≡ Some x)
some_of None some = absurd cc
some_of (Some x) some = (x, refl)

pub some_cond : (plan : Plan) (place : CondAt) (code : List ℕ) → IsWell plan → is_some (cond_at plan place) ≡ true → ((cond : Cond) → cond_at plan place ≡ Some cond → code ≡ code_of_cond cond) → IsSomeCondCode plan code
some_cond plan place code well some is =
    let found = some_of (cond_at plan place) some in
    record { scope = scope_at plan place; cond = found.0; is = cond_there plan place found.0 code well found.1 (is found.0 found.1) }

-- ---- bodies

-- the code of the body at a place
pub record BodyThere (plan : Plan) (place : BodyAt) (code : List ℕ) : Type 0 where
  pub scope : BodyScope
  pub is_code : (body : Body) → body_at plan place ≡ Some body → IsBodyCode plan scope body code

pub some_body : (plan : Plan) (place : BodyAt) (code : List ℕ) → is_some (body_at plan place) ≡ true → BodyThere plan place code → IsSomeBodyCode plan code
some_body plan place code some there =
    let found = some_of (body_at plan place) some in
    record { scope = there.scope; body = found.0; is = there.is_code found.0 found.1 }

-- the body of a request
pub request_there : (plan : Plan) (place : BodyAt) (n : ℕ) (code : List ℕ) → IsWell plan → place ≡ Request n → Some code ≡ option_map (λ row. code_of_body row.body) (slice_get plan.requests n) → BodyThere plan place code
request_there plan place n code well at shown = record { scope = scope_of_decisions plan; is_code = λ body there. by_row body (slice_get plan.requests n) refl (sym (ap (body_at plan) at) ∙ there) }
  where
    by_row : (body : Body) (row : Option RequestRow) → slice_get plan.requests n ≡ row → option_map (λ r. r.body) (slice_get plan.requests n) ≡ Some body → IsBodyCode plan (scope_of_decisions plan) body code
    by_row body None none there = absurd (let no : None ≡ Some body = sym (ap (option_map (λ (r : RequestRow). r.body)) none) ∙ there in cc)
    by_row body (Some row) found there =
        let one : Some row.body ≡ Some body = sym (ap (option_map (λ (r : RequestRow). r.body)) found) ∙ there in
        let same : row.body ≡ body = cc in
        let two : Some code ≡ Some (code_of_body row.body) = shown ∙ ap (option_map (λ (r : RequestRow). code_of_body r.body)) found in
        let is : code ≡ code_of_body row.body = cc in
        subst (λ (b : Body). IsBodyCode plan (scope_of_decisions plan) b code) same (record { scope_in = decisions_in plan; well = all_at (λ r. IsWellBody (scope_of_decisions plan) r.body) plan.requests n row well.rules.requests found; is = is })

-- the input of a module is well
input_well : (plan : Plan) (number : ℕ) (body : Body) → IsWell plan → input_of plan number ≡ Some body → IsWellBody (scope_of_inputs plan) body
input_well plan number body well there =
    option_and_then_some (λ row. row.input) (slice_get plan.modules number) body there
    (λ row found input. subst (λ (o : Option Body). IfSome o (IsWellBody (scope_of_inputs plan))) input
    (all_at (λ (r : ModulePlan). IfSome r.input (IsWellBody (scope_of_inputs plan))) plan.modules number row well.rules.inputs found))

-- the input of a module
pub input_there : (plan : Plan) (place : BodyAt) (number : ℕ) (code : List ℕ) → IsWell plan → place ≡ Input number → Some code ≡ option_map code_of_body (input_of plan number) → BodyThere plan place code
input_there plan place number code well at shown = record {
  scope = scope_of_inputs plan;
  is_code = λ body there.
      let input : input_of plan number ≡ Some body = sym (ap (body_at plan) at) ∙ there in
      let both : Some code ≡ Some (code_of_body body) = shown ∙ ap (option_map code_of_body) input in
      record { scope_in = inputs_in plan; well = input_well plan number body well input; is = cc };
}

-- a statement, with the code of its guard and of its commands
pub record StatementThere (plan : Plan) (place : BodyAt) (guard commands : List ℕ) : Type 0 where
  pub row : StmtPlan
  pub body_is : body_at plan place ≡ Some (body_of_statement row)
  pub guard_is : IsCondCode plan (scope_of_conds plan 0) row.guard guard
  pub commands_are : IsBodyCode plan (scope_of_decisions plan) (body_of_commands row.commands) commands

pub statement_there : (plan : Plan) (place : BodyAt) (n : ℕ) (both : Bor (List ℕ) × Bor (List ℕ)) → IsWell plan → place ≡ Statement n → IsStatementCode (Some both) (slice_get plan.statements n) → StatementThere plan place both.0.now both.1.now
statement_there plan place n both well at shown = by_row (slice_get plan.statements n) refl shown
  where
    by_row : (row : Option StmtPlan) → slice_get plan.statements n ≡ row → IsStatementCode (Some both) row → StatementThere plan place both.0.now both.1.now
    by_row None none codes = absurd codes
    by_row (Some row) found codes =
        let fine = all_at (IsWellStatement (scope_of_decisions plan)) plan.statements n row well.rules.statements found in
        record {
          row = row;
          body_is = ap (body_at plan) at ∙ ap (option_map body_of_statement) found;
          guard_is = record { scope_in = conds_scope plan 0 (omega arith); well = fine.guard; is = codes.0 };
          commands_are = record { scope_in = decisions_in plan; well = fine.commands; is = codes.1 };
        }

-- a statement's commands act where its guard holds
statement_effect : (plan : Plan) (row : StmtPlan) (state : State) (report : ℕ) → effect_of plan (body_of_statement row) state report ≡ (if value_of plan row.guard state report then effect_of plan (body_of_commands row.commands) state report else state)
statement_effect plan row state report =
    let item = If row.guard (body_of_commands row.commands) None in
    effect_of_items plan item [] state report ∙ effect_of_none plan (item_effect_of plan item state report) report ∙ effect_of_if plan row.guard (body_of_commands row.commands) state report

-- what the code finds of a statement: its guard has a value, and its commands leave a state where it holds
module _ (plan : Plan) (place : BodyAt) (guard commands : List ℕ) (there : StatementThere plan place guard commands) (state : State) (report : ℕ) (value : Bool)
    (valued : (scope : CondScope) (cond : Cond) → IsCondCode plan scope cond guard → value ≡ value_of plan cond state report)
    (body : Body) (at : body_at plan place ≡ Some body) where
  by_guard : (held : Bool) → value ≡ held → effect_of plan body state report ≡ (if held then effect_of plan (body_of_commands there.row.commands) state report else state)
  by_guard held is =
      let one : Some (body_of_statement there.row) ≡ Some body = sym there.body_is ∙ at in
      let same : body_of_statement there.row ≡ body = cc in
      let guard_value = sym (valued (scope_of_conds plan 0) there.row.guard there.guard_is) ∙ is in
      sym (ap (λ (b : Body). effect_of plan b state report) same)
      ∙ statement_effect plan there.row state report
      ∙ ap (λ (v : Bool). if v then effect_of plan (body_of_commands there.row.commands) state report else state) guard_value

  pub guard_holds : (next : State) → value ≡ true → ((scope : BodyScope) (b : Body) → IsBodyCode plan scope b commands → next ≡ effect_of plan b state report) → next ≡ effect_of plan body state report
  guard_holds next holds ran = ran (scope_of_decisions plan) (body_of_commands there.row.commands) there.commands_are ∙ sym (by_guard true holds)

  pub guard_fails : value ≡ false → state ≡ effect_of plan body state report
  guard_fails fails = sym (by_guard false fails)
