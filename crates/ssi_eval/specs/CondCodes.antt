-- Bytes that are the code of a condition of a data set.
use Rattle.std.specs.Prelude.{◌≡◌, ℕ, ◌<◌, ◌≤◌, Bool, true, List, length, reverse}
use Rattle.ssi_identities.specs.declared.rule.Cond.{Cond}
use Rattle.ssi_identities.specs.Allowed.{CondScope, IsWellCond}
use Rattle.ssi_identities.specs.Codes.{code_of_cond}
use Rattle.ssi_identities.specs.DataSets.{Plan, counts_of}
use Rattle.ssi_identities.specs.Facts.{fact_count_of}
use Rattle.ssi_identities.specs.States.{State}
use Rattle.ssi_identities.specs.Values.{scene_of, value_of}
use Rattle.ssi_eval.specs.declared.frame.Frame.{Frame}
use Rattle.ssi_eval.specs.Frames.{Reading}

-- a condition may name facts and points of the data set, and bits of a byte, and nothing else
pub record IsScopeIn (plan : Plan) (scope : CondScope) : Type 0 where
  pub facts : scope.facts ≤ fact_count_of (counts_of plan)
  pub bits : scope.bits ≤ 8
  pub points : (points : ℕ) (lie : Bool) → scope.may_ask points lie ≡ true → points < length plan.points

-- the code of a condition of the data set, which may name so much
pub record IsCondCode (plan : Plan) (scope : CondScope) (cond : Cond) (code : List ℕ) : Type 0 where
  pub scope_in : IsScopeIn plan scope
  pub well : IsWellCond scope cond
  pub is : code ≡ code_of_cond cond

-- the code of some condition of the data set
pub record IsSomeCondCode (plan : Plan) (code : List ℕ) : Type 0 where
  pub scope : CondScope
  pub cond : Cond
  pub is : IsCondCode plan scope cond code

-- the reading of a condition of the data set, above the frames of a stack
abbrev pub reading_of : Plan → CondScope → Cond → State → ℕ → List Frame → Reading
reading_of plan scope cond state report stack = record { scene = scene_of plan state report; scope = scope; under = reverse stack; result = value_of plan cond state report }
