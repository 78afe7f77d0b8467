-- Bytes that are the code of a body of a data set, and of a choice in it.
use Rattle.std.specs.Prelude.{◌≡◌, ℕ, ◌<◌, Bool, true, if◌then◌else◌, List, [], ◌++◌, Option, Some, None, option_map}
use Rattle.ssi_identities.specs.declared.rule.Cond.{Cond}
use Rattle.ssi_identities.specs.declared.rule.Body.{Body}
use Rattle.ssi_identities.specs.Allowed.{BodyScope, IsWellBody}
use Rattle.ssi_identities.specs.Codes.{IsShort, code_of_body, code_of_cond, else_code, with_length}
use Rattle.ssi_identities.specs.DataSets.{Plan, counts_of}
use Rattle.ssi_identities.specs.Facts.{fact_count_of}
use Rattle.ssi_identities.specs.Steps.{body_of}
use Rattle.ssi_eval.specs.CondCodes.{IsScopeIn, IsCondCode}

-- guards may name what is in the data set, and commands facts of it, and nothing else
pub record IsBodyScopeIn (plan : Plan) (scope : BodyScope) : Type 0 where
  pub guards : IsScopeIn plan scope.guards
  pub commands : (fact : ℕ) → scope.may_command fact ≡ true → fact < fact_count_of (counts_of plan)

-- the code of a body of the data set, which may name so much
pub record IsBodyCode (plan : Plan) (scope : BodyScope) (body : Body) (code : List ℕ) : Type 0 where
  pub scope_in : IsBodyScopeIn plan scope
  pub well : IsWellBody scope body
  pub is : code ≡ code_of_body body

-- the code of some body of the data set
pub record IsSomeBodyCode (plan : Plan) (code : List ℕ) : Type 0 where
  pub scope : BodyScope
  pub body : Body
  pub is : IsBodyCode plan scope body code

-- the code of a choice, behind its first byte and its length
pub record IsChoiceCode (plan : Plan) (scope : BodyScope) (guard : Cond) (then_body : Body) (else_body : Option Body) (code : List ℕ) : Type 0 where
  pub guard_is : IsCondCode plan scope.guards guard (code_of_cond guard)
  pub short : IsShort code
  pub is : code ≡ with_length (code_of_cond guard) ++ (with_length (code_of_body then_body) ++ else_code (option_map code_of_body else_body))

-- the code of some choice of the data set
pub record IsSomeChoiceCode (plan : Plan) (code : List ℕ) : Type 0 where
  pub scope : BodyScope
  pub guard : Cond
  pub then_body : Body
  pub else_body : Option Body
  pub is : IsChoiceCode plan scope guard then_body else_body code

-- the branch that is taken; one without items where there is none
abbrev pub taken : Bool → Body → Option Body → Body
taken value then_body None = if value then then_body else body_of []
taken value then_body (Some else_body) = if value then then_body else else_body
