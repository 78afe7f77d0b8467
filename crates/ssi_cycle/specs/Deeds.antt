-- Deeds: what acts on a state.
use Rattle.std.specs.Prelude.{ℕ, List, [], ◌∷◌}
use Rattle.ssi_identities.specs.declared.rule.Body.{Body}
use Rattle.ssi_identities.specs.DataSets.{Plan, ModulePlan}
use Rattle.ssi_identities.specs.States.{State}
use Rattle.ssi_identities.specs.Steps.{effect_of}
use Rattle.ssi_cycle.specs.Restrictions.{restricted}

-- a deed: a body acts with a report's byte, or all that is wired to a module is restricted
pub data Deed : Type 0 where
  Acts : Body → ℕ → Deed
  Restricts : ModulePlan → Deed

-- the state after a deed
abbrev pub after_deed : Plan → State → Deed → State
after_deed plan state (Acts body report) = effect_of plan body state report
after_deed plan state (Restricts row) = restricted plan row state

-- the state after deeds, each in the state that the one before it has left
abbrev pub after_deeds : Plan → State → List Deed → State
after_deeds plan state [] = state
after_deeds plan state (deed ∷ deeds) = after_deeds plan (after_deed plan state deed) deeds
