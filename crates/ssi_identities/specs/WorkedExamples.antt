-- Conditions and bodies of two small layouts. One has two flags, L1 and L2, and nothing else: fact 0 is 'L1 is set' and fact 1 is 'L2 is set'.
-- The other has points P1 and P2 and the flag L1: facts 0 and 3 are 'controlled reverse' of the points, and fact 6 is 'L1 is set'.
use Rattle.std.specs.Prelude.{ℕ, Bool, true, false, [], ◌∷◌, Some, None, codes}
use Rattle.ssi_identities.specs.declared.rule.Cmd.{Cmd}
use Rattle.ssi_identities.specs.declared.rule.CondItem.TheVariants.{Lit, Bit, Free, Any}
use Rattle.ssi_identities.specs.declared.rule.Cond.{Cond}
use Rattle.ssi_identities.specs.declared.rule.BodyItem.TheVariants.{Do, If}
use Rattle.ssi_identities.specs.declared.rule.Body.{Body}
use Rattle.ssi_identities.specs.DataSets.{Plan}
use Rattle.ssi_identities.specs.States.{State}
use Rattle.ssi_identities.specs.Values.{cond_of}
use Rattle.ssi_identities.specs.Steps.{Step, body_of}

-- the layout of two flags
abbrev pub two_flags : Plan
two_flags = record { points = []; signals = []; tracks = []; routes = []; subs = []; flags = codes "L1" ∷ codes "L2" ∷ []; requests = []; statements = []; modules = [] }

-- the state in which L1 and L2 are as given
abbrev pub flags : Bool → Bool → State
flags l1 l2 = record { facts = l1 ∷ l2 ∷ [] }

-- 'L1 s' or 'L1 xs' as a condition
abbrev pub l1_is : Bool → Cond
l1_is wanted = record { items = Lit 0 wanted ∷ [] }

-- 'L1 s, L2 xs' as a condition
abbrev pub l1_set_and_l2_not : Cond
l1_set_and_l2_not = record { items = Lit 0 true ∷ Lit 1 false ∷ [] }

-- a fact past the last is false
abbrev pub no_fact_is_false : Cond
no_fact_is_false = record { items = Lit 2 false ∷ [] }

-- '(L1 s or L2 s)' as a condition
abbrev pub one_is_set : Cond
one_is_set = cond_of (Any (cond_of (Lit 0 true ∷ []) ∷ cond_of (Lit 1 true ∷ []) ∷ []) ∷ [])

-- '(L1 s, L2 s or L1 xs, (L2 xs or 0 l))': both flags are set, or L1 isn't and either L2 isn't or bit 0 of the report is 0
abbrev pub nested_groups : Cond
nested_groups =
    let inner = Any (cond_of (Lit 1 false ∷ []) ∷ cond_of (Bit 0 false ∷ []) ∷ []) in
    cond_of (Any (cond_of (Lit 0 true ∷ Lit 1 true ∷ []) ∷ cond_of (Lit 0 false ∷ inner ∷ []) ∷ []) ∷ [])

-- a group without alternatives
abbrev pub no_alternative : Cond
no_alternative = cond_of (Any [] ∷ [])

-- '2 h' or '2 l' and the like as a condition: a bit of the report is 1, or is 0
abbrev pub bit_is : ℕ → Bool → Cond
bit_is bit wanted = cond_of (Bit bit wanted ∷ [])

-- the layout of two points and a flag: P1 is free to move to normal where L1 is set, and to reverse where it isn't; P2 to reverse where L1 is set, and never to normal
abbrev pub points_and_flag : Plan
points_and_flag = record {
  points = record { name = codes "P1"; tracks = []; free_normal = Some (cond_of (Lit 6 true ∷ [])); free_reverse = Some (cond_of (Lit 6 false ∷ [])) }
      ∷ record { name = codes "P2"; tracks = []; free_normal = None; free_reverse = Some (cond_of (Lit 6 true ∷ [])) } ∷ [];
  signals = [];
  tracks = [];
  routes = [];
  subs = [];
  flags = codes "L1" ∷ [];
  requests = [];
  statements = [];
  modules = [];
}

-- the state in which P1 and P2 are controlled reverse or not, and L1 is set or not
abbrev pub points_are : Bool → Bool → Bool → State
points_are p1 p2 l1 = record { facts = p1 ∷ false ∷ false ∷ p2 ∷ false ∷ false ∷ l1 ∷ [] }

-- 'P1 crf' or 'P1 cnf' and the like as a condition
abbrev pub free_to : ℕ → Bool → Cond
free_to points reverse = cond_of (Free points reverse ∷ [])

-- 'L1 s' or 'L1 xs' as a command
abbrev pub l1_becomes : Bool → Cmd
l1_becomes value = record { fact = 0; value = value }

-- 'L2 s' or 'L2 xs' as a command
abbrev pub l2_becomes : Bool → Cmd
l2_becomes value = record { fact = 1; value = value }

-- the step of a command of this number, between these states
abbrev pub step : State → ℕ → Cmd → State → Step
step before number command after = record { before = before; number = number; command = command; after = after }

-- if L1 xs then L1 s, if L1 s then L2 s else L1 xs end end
abbrev pub looks_at_what_it_set : Body
looks_at_what_it_set =
    let inner = If (l1_is true) (body_of (Do (l2_becomes true) ∷ [])) (Some (body_of (Do (l1_becomes false) ∷ []))) in
    body_of (If (l1_is false) (body_of (Do (l1_becomes true) ∷ inner ∷ [])) None ∷ [])

-- if L1 xs then L1 s, L2 s end
abbrev pub undoes_its_guard : Body
undoes_its_guard = body_of (If (l1_is false) (body_of (Do (l1_becomes true) ∷ Do (l2_becomes true) ∷ [])) None ∷ [])

-- if L1 s then L2 s else L2 xs end
abbrev pub copies_l1 : Body
copies_l1 = body_of (If (l1_is true) (body_of (Do (l2_becomes true) ∷ [])) (Some (body_of (Do (l2_becomes false) ∷ []))) ∷ [])

-- L1 s, L1 xs
abbrev pub sets_then_resets : Body
sets_then_resets = body_of (Do (l1_becomes true) ∷ Do (l1_becomes false) ∷ [])

-- a command for a fact past the last
abbrev pub sets_no_fact : Body
sets_no_fact = body_of (Do (record { fact = 2; value = true }) ∷ [])

-- if L1 s then L2 s, L2 xs else L1 s end, L2 s
abbrev pub goes_on_after_a_choice : Body
goes_on_after_a_choice =
    let choice = If (l1_is true) (body_of (Do (l2_becomes true) ∷ Do (l2_becomes false) ∷ [])) (Some (body_of (Do (l1_becomes true) ∷ []))) in
    body_of (choice ∷ Do (l2_becomes true) ∷ [])
