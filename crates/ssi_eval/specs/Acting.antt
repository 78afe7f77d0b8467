-- What the levels of a body still have to do.
use Rattle.std.specs.Prelude.{◌≡◌, ℕ, ◌+◌, ◌≤◌, true, List, [], ◌∷◌, length, map}
use Rattle.std.specs.List.{list_all}
use Rattle.ssi_identities.specs.declared.rule.BodyItem.{BodyItem}
use Rattle.ssi_identities.specs.Allowed.{BodyScope, greatest, is_part_within, part_depth}
use Rattle.ssi_identities.specs.Codes.{IsShort, code_of_parts}
use Rattle.ssi_identities.specs.DataSets.{Plan}
use Rattle.ssi_identities.specs.States.{State}
use Rattle.ssi_identities.specs.Steps.{body_of, effect_of}
use Rattle.ssi_eval.specs.declared.frame.Frame.{Frame}

-- a level of a body, so many levels below the outermost, has these items left; no more than eight levels lie in one another
pub record IsBodyLevel (scope : BodyScope) (below : ℕ) (code : List ℕ) (parts : List BodyItem) : Type 0 where
  pub is : code ≡ code_of_parts parts
  pub short : IsShort code
  pub within : list_all (is_part_within scope) parts ≡ true
  pub depth : below + greatest (map part_depth parts) ≤ 8

-- the levels, the innermost first, act on a state one after another, and leave the last state
abbrev pub Leaves : Plan → BodyScope → ℕ → List Frame → State → State → Type 0
Leaves plan scope report [] state last = state ≡ last
Leaves plan scope report (frame ∷ frames) state last = (parts : List BodyItem) × IsBodyLevel scope (length frames) frame.items.now parts × Leaves plan scope report frames (effect_of plan (body_of parts) state report) last

-- the same, where the innermost level is given by its code
abbrev pub LeavesFrom : Plan → BodyScope → ℕ → List ℕ → List Frame → State → State → Type 0
LeavesFrom plan scope report code frames state last = (parts : List BodyItem) × IsBodyLevel scope (length frames) code parts × Leaves plan scope report frames (effect_of plan (body_of parts) state report) last
