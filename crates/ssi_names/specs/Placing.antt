-- Rows in which one more entry of PFM, OPT or IPT is told, at the points or the module that it names.
use Rattle.std.specs.Prelude.{◌≡◌, ℕ, zero, suc, Bool, true, false, List, [], ◌∷◌, Option, Some, None}
use Rattle.std.specs.List.{IsDistinct}
use Rattle.std.specs.Str.{bytes_eq}
use Rattle.ssi_identities.specs.declared.rule.Body.{Body}
use Rattle.ssi_identities.specs.declared.rule.Cond.{Cond}
use Rattle.ssi_identities.specs.DataSets.{PointsPlan, ModulePlan}

-- the names of rows, each at its row's place, differ, and a table has them at the same places
pub record ArePlaces (table names : List (List ℕ)) : Type 0 where
  pub same : table ≡ names
  pub differ : IsDistinct bytes_eq names

-- points, of which it is said when they are free to go to a lie, true for reverse
abbrev pub with_move : PointsPlan → Bool → Cond → PointsPlan
with_move row true cond = record row { free_reverse = Some cond }
with_move row false cond = record row { free_normal = Some cond }

-- a module, of which it is said when each bit that is sent to it is 1
abbrev pub with_outputs : ModulePlan → List (Option Cond) → ModulePlan
with_outputs row outputs = record row { outputs = outputs }

-- a module, of which it is said what its reports do
abbrev pub with_input : ModulePlan → Body → ModulePlan
with_input row body = record row { input = Some body }

-- a list with another item at a place, made of the one there
abbrev pub changed : {X : Type 0} → (X → X) → ℕ → List X → List X
changed change i [] = []
changed change zero (x ∷ xs) = change x ∷ xs
changed change (suc i) (x ∷ xs) = x ∷ changed change i xs

-- the same list where there is no place
abbrev pub changed_at : {X : Type 0} → (X → X) → Option ℕ → List X → List X
changed_at change None xs = xs
changed_at change (Some i) xs = changed change i xs
