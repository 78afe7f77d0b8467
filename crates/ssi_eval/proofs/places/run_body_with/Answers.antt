use Rattle.std.proofs.Common.{ℕ, List, Option, option_map, sym, ap, subst, ◌∙◌}
use Rattle.std.specs.Borrow.{Bor}
use Rattle.std.specs.Prelude.{slice_get}
use Rattle.ssi_identities.specs.Allowed.{body_of_commands}
use Rattle.ssi_identities.specs.Wells.{scope_of_conds, scope_of_decisions}
use Rattle.ssi_image.specs.Shown.{IsStatementCode}
use Rattle.ssi_eval.proofs.AtPlaces.{some_body, request_there, input_there, statement_there, guard_holds, guard_fails}
use Rattle.ssi_eval.proofs.places.run_body_with.Goals as goal

pub run-requires-clause-code : goal.run-requires-clause-code
run-requires-clause-code c = some_body c.args.image.now c.args.place c.unwrap-code.result.now c.requires.there (request_there c.args.image.now c.args.place c.in-Request.request c.unwrap-code.result.now c.request_code.ensures.well c.in-Request.is (sym (ap (option_map (λ (b : Bor (List ℕ)). b.now)) c.unwrap-code.ensures) ∙ c.request_code.ensures.code))

pub returns-in-Request-clause-effect : goal.returns-in-Request-clause-effect
returns-in-Request-clause-effect c = λ body at. c.run.ensures.effect _ body ((request_there c.args.image.now c.args.place c.in-Request.request c.unwrap-code.result.now c.request_code.ensures.well c.in-Request.is (sym (ap (option_map (λ (b : Bor (List ℕ)). b.now)) c.unwrap-code.ensures) ∙ c.request_code.ensures.code)).is_code body at)

pub value-requires-clause-code : goal.value-requires-clause-code
value-requires-clause-code c =
    let there = statement_there c.args.image.now c.args.place c.in-Statement.statement c.unwrap.result c.statement_code.ensures.well c.in-Statement.is (subst (λ (o : Option (Bor (List ℕ) × Bor (List ℕ))). IsStatementCode o (slice_get c.args.image.now.statements c.in-Statement.statement)) c.unwrap.ensures c.statement_code.ensures.code) in
    record { scope = scope_of_conds c.args.image.now 0; cond = there.row.guard; is = there.guard_is }

pub run-requires-then-value-clause-code : goal.run-requires-then-value-clause-code
run-requires-then-value-clause-code c =
    let there = statement_there c.args.image.now c.args.place c.in-Statement.statement c.unwrap.result c.statement_code.ensures.well c.in-Statement.is (subst (λ (o : Option (Bor (List ℕ) × Bor (List ℕ))). IsStatementCode o (slice_get c.args.image.now.statements c.in-Statement.statement)) c.unwrap.ensures c.statement_code.ensures.code) in
    record { scope = scope_of_decisions c.args.image.now; body = body_of_commands there.row.commands; is = there.commands_are }

pub returns-then-value-clause-effect : goal.returns-then-value-clause-effect
returns-then-value-clause-effect c = λ body at.
    let there = statement_there c.args.image.now c.args.place c.in-Statement.statement c.unwrap.result c.statement_code.ensures.well c.in-Statement.is (subst (λ (o : Option (Bor (List ℕ) × Bor (List ℕ))). IsStatementCode o (slice_get c.args.image.now.statements c.in-Statement.statement)) c.unwrap.ensures c.statement_code.ensures.code) in
    guard_holds c.args.image.now c.args.place c.unwrap.result.0.now c.unwrap.result.1.now there c.args.state.now c.args.report c.value.result c.value.ensures.value body at c.run-then-value.new.state c.if-value.true c.run-then-value.ensures.effect

pub returns-else-value-clause-effect : goal.returns-else-value-clause-effect
returns-else-value-clause-effect c = λ body at.
    let there = statement_there c.args.image.now c.args.place c.in-Statement.statement c.unwrap.result c.statement_code.ensures.well c.in-Statement.is (subst (λ (o : Option (Bor (List ℕ) × Bor (List ℕ))). IsStatementCode o (slice_get c.args.image.now.statements c.in-Statement.statement)) c.unwrap.ensures c.statement_code.ensures.code) in
    guard_fails c.args.image.now c.args.place c.unwrap.result.0.now c.unwrap.result.1.now there c.args.state.now c.args.report c.value.result c.value.ensures.value body at c.if-value.false

pub run-requires-in-Input-clause-code : goal.run-requires-in-Input-clause-code
run-requires-in-Input-clause-code c = some_body c.args.image.now c.args.place c.unwrap-code-in-Input.result.now c.requires.there (input_there c.args.image.now c.args.place c.in-Input.module c.unwrap-code-in-Input.result.now c.input_code.ensures.well c.in-Input.is (sym (ap (option_map (λ (b : Bor (List ℕ)). b.now)) c.unwrap-code-in-Input.ensures) ∙ c.input_code.ensures.code))

pub returns-in-Input-clause-effect : goal.returns-in-Input-clause-effect
returns-in-Input-clause-effect c = λ body at. c.run-in-Input.ensures.effect _ body ((input_there c.args.image.now c.args.place c.in-Input.module c.unwrap-code-in-Input.result.now c.input_code.ensures.well c.in-Input.is (sym (ap (option_map (λ (b : Bor (List ℕ)). b.now)) c.unwrap-code-in-Input.ensures) ∙ c.input_code.ensures.code)).is_code body at)
