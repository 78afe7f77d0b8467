-- What may act at all: the blocks of a data set.
use Rattle.std.specs.Prelude.{◌≡◌, ◌<◌, Contains, Some}
use Rattle.ssi_identities.specs.declared.data_set.RequestRow.{RequestRow}
use Rattle.ssi_identities.specs.declared.rule.Body.{Body}
use Rattle.ssi_identities.specs.DataSets.{Plan, ModulePlan, StmtPlan}
use Rattle.ssi_identities.specs.Allowed.{body_of_statement}
use Rattle.ssi_cycle.specs.Deeds.{Deed}
use Rattle.ssi_cycle.specs.Deeds.Deed.{Acts, Restricts}

-- a block of a data set: the input of a module, a statement, or the body of a request
pub data IsBlockOf (plan : Plan) : Body → Type 0 where
  input : (row : ModulePlan) (body : Body) → Contains plan.modules row → row.input ≡ Some body → IsBlockOf plan body
  statement : (row : StmtPlan) → Contains plan.statements row → IsBlockOf plan (body_of_statement row)
  request : (row : RequestRow) → Contains plan.requests row → IsBlockOf plan row.body

-- a deed of a data set: a block acts with a byte, or what is wired to one of the modules is restricted
abbrev pub IsDeedOf : Plan → Deed → Type 0
IsDeedOf plan (Acts body report) = IsBlockOf plan body × (report < 256)
IsDeedOf plan (Restricts row) = Contains plan.modules row
