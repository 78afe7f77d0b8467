-- Where conditions and bodies of a data set stand, and how its modules are found.
use Rattle.std.specs.Prelude.{◌≡◌, ℕ, Bool, true, false, Option, Some, option_map, option_and_then, slice_get}
use Rattle.ssi_identities.specs.declared.fact.Kind.{Kind}
use Rattle.ssi_identities.specs.declared.fact.Kind.TheVariants.{Points, Signal, Track}
use Rattle.ssi_identities.specs.declared.rule.Body.{Body}
use Rattle.ssi_identities.specs.declared.rule.Cond.{Cond}
use Rattle.ssi_identities.specs.Allowed.{body_of_statement}
use Rattle.ssi_identities.specs.DataSets.{ModulePlan, Plan}
use Rattle.ssi_identities.specs.Values.{move_condition_of}
use Rattle.ssi_image.specs.declared.places.CondAt.{CondAt}
use Rattle.ssi_image.specs.declared.places.CondAt.TheVariants.{Output, Free}
use Rattle.ssi_image.specs.declared.places.BodyAt.{BodyAt}
use Rattle.ssi_image.specs.declared.places.BodyAt.TheVariants.{Request, Statement, Input}

-- the condition of a bit that is sent to a module, if it has one
abbrev pub output_of : Plan → ℕ → ℕ → Option Cond
output_of plan number bit = option_and_then (λ row. option_and_then (λ output. output) (slice_get row.outputs bit)) (slice_get plan.modules number)

-- what a report of a module does, if it does something
abbrev pub input_of : Plan → ℕ → Option Body
input_of plan number = option_and_then (λ row. row.input) (slice_get plan.modules number)

-- the condition at a place, if there is one
abbrev pub cond_at : Plan → CondAt → Option Cond
cond_at plan (Output number bit) = output_of plan number bit
cond_at plan (Free points reverse) = move_condition_of plan points reverse

-- the body at a place, if there is one
abbrev pub body_at : Plan → BodyAt → Option Body
body_at plan (Request request) = option_map (λ row. row.body) (slice_get plan.requests request)
body_at plan (Statement statement) = option_map body_of_statement (slice_get plan.statements statement)
body_at plan (Input number) = input_of plan number

-- what a pin of a module is wired to, if it is
abbrev pub pin_of : Plan → ℕ → ℕ → Option ℕ
pin_of plan number pin = option_and_then (λ row. option_and_then (λ wired. wired) (slice_get row.pins pin)) (slice_get plan.modules number)

-- an identity is wired to this pin of this module, which is of this kind
pub record IsWiredTo (plan : Plan) (kind identity number pin : ℕ) : Type 0 where
  pub row : ModulePlan
  pub row_is : slice_get plan.modules number ≡ Some row
  pub kind_is : row.kind ≡ kind
  pub pin_is : slice_get row.pins pin ≡ Some (Some identity)

-- the kinds of identities that are wired to modules
abbrev pub is_wired_kind : Kind → Bool
is_wired_kind Points = true
is_wired_kind Signal = true
is_wired_kind Track = true
is_wired_kind _ = false
