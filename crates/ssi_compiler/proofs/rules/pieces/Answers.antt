use Rattle.std.proofs.Common.{◌≡◌, List, All, rules}
use Rattle.std.specs.Prelude.{IfSome}
use Rattle.std.proofs.lemmas.List.Elements.{All-same}
use Rattle.ssi_identities.specs.declared.data_set.RequestRow.{RequestRow}
use Rattle.ssi_identities.specs.Allowed.{IsWellBody}
use Rattle.ssi_identities.specs.DataSets.{ModulePlan, Plan}
use Rattle.ssi_identities.specs.Wells.{AreWellOutputs, HasWellMoves, IsWellStatement, scope_of_conds, scope_of_decisions, scope_of_inputs, scope_of_moves}
use Rattle.ssi_compiler.specs.Rows.{IsWellInSome}
use Rattle.ssi_compiler.proofs.rules.pieces.Goals as goal

-- rows of a data set
in_some : {X : Type 0} (IsWellIn : Plan → X → Type 0) (plan : Plan) (rows all : List X) → rows ≡ all → All (IsWellIn plan) all → All (IsWellInSome IsWellIn) rows
in_some IsWellIn plan rows all same each k d few = (plan, All-same (IsWellIn plan) rows all same each k d few)

pub add_rows-requires : goal.add_rows-requires
add_rows-requires c = let plan = c.args.plan.now in in_some (λ (p : Plan). HasWellMoves (scope_of_moves p)) plan c.as_slice.result.now plan.points (search rules) c.requires.rules.moves

pub add_rows-requires-2 : goal.add_rows-requires-2
add_rows-requires-2 c = let plan = c.args.plan.now in in_some (λ (p : Plan) (row : RequestRow). IsWellBody (scope_of_decisions p) row.body) plan c.as_slice-2.result.now plan.requests (search rules) c.requires.rules.requests

pub add_rows-requires-3 : goal.add_rows-requires-3
add_rows-requires-3 c = let plan = c.args.plan.now in in_some (λ (p : Plan). IsWellStatement (scope_of_decisions p)) plan c.as_slice-3.result.now plan.statements (search rules) c.requires.rules.statements

pub add_rows-requires-4 : goal.add_rows-requires-4
add_rows-requires-4 c =
    let plan = c.args.plan.now in
    in_some (λ (p : Plan) (row : ModulePlan). AreWellOutputs (scope_of_conds p 0) row.outputs) plan c.as_slice-4.result.now plan.modules (search rules) c.requires.rules.outputs

pub add_rows-requires-5 : goal.add_rows-requires-5
add_rows-requires-5 c =
    let plan = c.args.plan.now in
    in_some (λ (p : Plan) (row : ModulePlan). IfSome row.input (IsWellBody (scope_of_inputs p))) plan c.as_slice-5.result.now plan.modules (search rules) c.requires.rules.inputs
