-- Statements and two small layouts, with states and worlds of them: what is computed of them holds the definitions to values that were worked out by hand.
use Rattle.std.specs.Prelude.{ℕ, Bool, true, false, List, [], ◌∷◌, ◌++◌, map, Some, None, codes}
use Rattle.std.specs.List.{range_with_len}
use Rattle.ssi_identities.specs.declared.rule.Body.{Body}
use Rattle.ssi_identities.specs.declared.rule.BodyItem.TheVariants.{Do, If}
use Rattle.ssi_identities.specs.declared.rule.Cmd.{Cmd}
use Rattle.ssi_identities.specs.declared.rule.Cond.{Cond}
use Rattle.ssi_identities.specs.declared.rule.CondItem.TheVariants.{Bit, Lit}
use Rattle.ssi_identities.specs.DataSets.{ModulePlan, Plan, StmtPlan}
use Rattle.ssi_identities.specs.States.{State}
use Rattle.ssi_identities.specs.Steps.{body_of}
use Rattle.ssi_identities.specs.Values.{cond_of}
use Rattle.ssi_cycle.specs.Worlds.{World}

-- a statement that is told from others by the fact that it commands
abbrev pub statement : ℕ → StmtPlan
statement number = record { commands = record { fact = number; value = true } ∷ []; guard = cond_of [] }

-- so many of them, in the order of their numbers
abbrev pub statements : ℕ → List StmtPlan
statements count = map statement (range_with_len 0 count)

-- points P1 alone at pin 0
abbrev pub module_of_p1 : ModulePlan
module_of_p1 = record { address = 1; kind = 0; pins = Some 0 ∷ None ∷ []; outputs = None ∷ None ∷ None ∷ None ∷ None ∷ None ∷ None ∷ None ∷ []; input = None }

-- points P2 alone, at pin 1
abbrev pub module_of_p2 : ModulePlan
module_of_p2 = record { address = 2; kind = 0; pins = None ∷ Some 1 ∷ []; outputs = None ∷ None ∷ None ∷ None ∷ None ∷ None ∷ None ∷ None ∷ []; input = None }

-- the signal S1 alone, at pin 7
abbrev pub module_of_s1 : ModulePlan
module_of_s1 = record {
  address = 3;
  kind = 1;
  pins = None ∷ None ∷ None ∷ None ∷ None ∷ None ∷ None ∷ Some 0 ∷ [];
  outputs = None ∷ None ∷ None ∷ None ∷ None ∷ None ∷ None ∷ None ∷ [];
  input = None;
}

-- the tracks T1 and T2, at pins 0 and 2
abbrev pub module_of_tracks : ModulePlan
module_of_tracks = record {
  address = 4;
  kind = 2;
  pins = Some 0 ∷ None ∷ Some 1 ∷ None ∷ None ∷ None ∷ None ∷ None ∷ [];
  outputs = None ∷ None ∷ None ∷ None ∷ None ∷ None ∷ None ∷ None ∷ [];
  input = None;
}

-- points P1 and P2, a signal S1 and tracks T1 and T2: facts 0 to 2 and 3 to 5 are 'controlled reverse', 'detected normal' and 'detected reverse' of the points, fact 6 is 'the lamp is proved', and facts 7 and 8 are 'the track is occupied'
abbrev pub lineside : Plan
lineside = record {
  points = record { name = codes "P1"; tracks = 0 ∷ []; free_normal = None; free_reverse = None } ∷ record { name = codes "P2"; tracks = 1 ∷ []; free_normal = None; free_reverse = None } ∷ [];
  signals = codes "S1" ∷ [];
  tracks = codes "T1" ∷ codes "T2" ∷ [];
  routes = [];
  subs = [];
  flags = [];
  requests = [];
  statements = [];
  modules = module_of_p1 ∷ module_of_p2 ∷ module_of_s1 ∷ module_of_tracks ∷ [];
}

-- where points are: controlled to a lie (true for reverse), and detected in it or in none
abbrev pub points_at : Bool → Bool → List Bool
points_at false detected = false ∷ detected ∷ false ∷ []
points_at true detected = true ∷ false ∷ detected ∷ []

-- the state in which P1 is normal and P2 reverse, each detected there or not, the lamp is proved or not, and each track is occupied or not
abbrev pub lineside_is : Bool → Bool → Bool → Bool → Bool → State
lineside_is p1 p2 lamp t1 t2 = record { facts = points_at false p1 ++ points_at true p2 ++ lamp ∷ t1 ∷ t2 ∷ [] }

-- 'L1 s', 'L2 s' and 'T1 c' as tests of the layout of one track, and '0 h'
abbrev pub l1_set : Cond
l1_set = cond_of (Lit 1 true ∷ [])

abbrev pub l2_set : Cond
l2_set = cond_of (Lit 2 true ∷ [])

abbrev pub t1_clear : Cond
t1_clear = cond_of (Lit 0 false ∷ [])

abbrev pub l1_set_and_t1_clear : Cond
l1_set_and_t1_clear = cond_of (Lit 1 true ∷ Lit 0 false ∷ [])

abbrev pub bit_0_high : Cond
bit_0_high = cond_of (Bit 0 true ∷ [])

-- 'T1 o' or 'T1 c', 'L1 s' and 'L2 s' as commands
abbrev pub t1_becomes : Bool → Cmd
t1_becomes occupied = record { fact = 0; value = occupied }

abbrev pub set_l1 : Cmd
set_l1 = record { fact = 1; value = true }

abbrev pub set_l2 : Cmd
set_l2 = record { fact = 2; value = true }

-- if 0 h then T1 c else T1 o end
abbrev pub reads_t1 : Body
reads_t1 = body_of (If bit_0_high (body_of (Do (t1_becomes false) ∷ [])) (Some (body_of (Do (t1_becomes true) ∷ []))) ∷ [])

-- if L1 s, T1 c then L2 s end
abbrev pub gives_t1 : Body
gives_t1 = body_of (If l1_set_and_t1_clear (body_of (Do set_l2 ∷ [])) None ∷ [])

-- L1 s if T1 c
abbrev pub notes_t1 : StmtPlan
notes_t1 = record { commands = set_l1 ∷ []; guard = t1_clear }

-- the module of T1, at pin 0: bit 0 that is sent to it is 1 where L2 is set, and bit 2 where T1 is clear
abbrev pub module_of_t1 : ModulePlan
module_of_t1 = record {
  address = 5;
  kind = 2;
  pins = Some 0 ∷ None ∷ None ∷ None ∷ None ∷ None ∷ None ∷ None ∷ [];
  outputs = Some l2_set ∷ None ∷ Some t1_clear ∷ None ∷ None ∷ None ∷ None ∷ None ∷ [];
  input = Some reads_t1;
}

-- the track T1 and the flags L1 and L2, with one module, one statement and one request: fact 0 is 'T1 is occupied', and facts 1 and 2 are 'L1 is set' and 'L2 is set'
abbrev pub one_track : Plan
one_track = record {
  points = [];
  signals = [];
  tracks = codes "T1" ∷ [];
  routes = [];
  subs = [];
  flags = codes "L1" ∷ codes "L2" ∷ [];
  requests = record { name = codes "Q1"; body = gives_t1 } ∷ [];
  statements = notes_t1 ∷ [];
  modules = module_of_t1 ∷ [];
}

-- the state in which T1 is occupied or not, and L1 and L2 are set or not
abbrev pub one_track_is : Bool → Bool → Bool → State
one_track_is t1 l1 l2 = record { facts = t1 ∷ l1 ∷ l2 ∷ [] }

-- the world in which a slot comes next, the state is so, and these requests wait
abbrev pub in_slot : ℕ → State → List ℕ → World
in_slot slot state waiting = record { state = state; waiting = waiting; slot = slot }
