-- A reading begins at a condition's code, and what its end says.
use Rattle.std.proofs.Common.{◌≡◌, ℕ, ◌≤◌, ◌<◌, ◌^◌, Bool, true, false, ◌||◌, List, [], length, Option, Some, None, option_map, refl, sym, ap, subst, ◌∙◌, arith}
use Rattle.std.specs.Prelude.{if◌then◌else◌, reverse, is_some, option_and_then, slice_get, All, IfSome}
use Rattle.std.proofs.lemmas.List.{length-reverse, reverse-reverse}
use Rattle.std.proofs.lemmas.List.Elements.{All-get_or}
use Rattle.std.proofs.lemmas.Option.{slice_get_within, get_or_from_slice_get, option_and_then_some}
use Rattle.std.specs.List.{list_all}
use Rattle.ssi_identities.specs.declared.rule.Cond.{Cond}
use Rattle.ssi_identities.specs.Allowed.{CondScope, IsWellCond}
use Rattle.ssi_identities.specs.Codes.{code_of_cond}
use Rattle.ssi_identities.specs.DataSets.{Plan, PointsPlan, counts_of}
use Rattle.ssi_identities.specs.Facts.{fact_count_of}
use Rattle.ssi_identities.specs.States.{IsStateOf, State}
use Rattle.ssi_identities.specs.Values.{Scene, bit_of, is_free, holds_in, item_holds, may_move, move_condition_of, move_scene, scene_of}
use Rattle.ssi_identities.specs.Wells.{HasWellMoves, IsWell, scope_of_conds, scope_of_moves}
use Rattle.ssi_identities.proofs.Values.{all_hold}
use Rattle.ssi_eval.specs.declared.frame.Frame.{Frame}
use Rattle.ssi_eval.specs.CondCodes.{IsScopeIn, IsCondCode, reading_of}
use Rattle.ssi_eval.specs.Frames.{Reading, LooksAt, Fits, GoesOn}
use Rattle.ssi_eval.proofs.Levels.{code_by_items, depth_by_items, items_within}

or_false : (a : Bool) → a ≡ (a || false)
or_false true = refl
or_false false = refl

-- a reading begins at the code of a condition, with no frames of its own
pub starts : (scene : Scene) (scope : CondScope) (cond : Cond) (stack : List Frame) (level : Frame) (code : List ℕ) → IsWellCond scope cond → code ≡ code_of_cond cond → level.items.now ≡ code → level.others.now ≡ []
    → GoesOn (record { scene = scene; scope = scope; under = reverse stack; result = holds_in scene cond }) stack level true
starts scene scope cond stack level code well is items others = record {
  frames = [];
  on = refl;
  gives = (
    cond.items,
    [],
    record {
      items_are = items ∙ is ∙ code_by_items cond;
      others_are = others;
      items_short = let short = well.short in omega (arith, ap length (code_by_items cond));
      others_short = omega arith;
      items_within = items_within scope cond well.within;
      others_within = refl;
      items_depth = let depth = well.depth in omega (arith, depth_by_items cond);
      others_depth = omega arith;
    },
    sym (or_false (list_all (item_holds scene) cond.items)) ∙ sym (all_hold scene cond.items),
  );
}

pub same_stack : (old new : List Frame) → reverse new ≡ reverse old → new ≡ old
same_stack old new is = sym (reverse-reverse new) ∙ ap reverse is ∙ reverse-reverse old

-- a well data set has fewer facts than two bytes number
pub few_facts : (plan : Plan) → IsWell plan → fact_count_of (counts_of plan) < 2 ^ 16
few_facts plan well =
    let l = well.size.limits in
    let points = l.points in
    let signals = l.signals in
    let tracks = l.tracks in
    let routes = l.routes in
    let subs = l.subs in
    let flags = l.flags in
    omega arith

-- ---- the conditions of points

-- points that have a condition are among the points
pub asked_known : (plan : Plan) (points : ℕ) (lie : Bool) → is_some (move_condition_of plan points lie) ≡ true → points < length plan.points
asked_known plan points lie asked = by_row (slice_get plan.points points) refl
  where
    by_row : (row : Option PointsPlan) → slice_get plan.points points ≡ row → points < length plan.points
    by_row None none = let no : is_some (move_condition_of plan points lie) ≡ false = ap (λ (row : Option PointsPlan). is_some (option_and_then (λ r. if lie then r.free_reverse else r.free_normal) row)) none in absurd cc
    by_row (Some row) there = slice_get_within plan.points points row there

-- what holds of each holds of the one at a place
pub all_at : {X : Type 0} (P : X → Type 0) (xs : List X) (n : ℕ) (x : X) → All P xs → slice_get xs n ≡ Some x → P x
all_at P xs n x all there = subst P (get_or_from_slice_get xs n x x there) (All-get_or P xs n x (slice_get_within xs n x there) all)

-- the condition of points is well
pub move_is_well : (plan : Plan) (points : ℕ) (lie : Bool) (cond : Cond) → IsWell plan → move_condition_of plan points lie ≡ Some cond → IsWellCond (scope_of_moves plan) cond
move_is_well plan points lie cond well is =
    option_and_then_some (λ row. if lie then row.free_reverse else row.free_normal) (slice_get plan.points points) cond is (λ row there at. of_row row lie (all_at (HasWellMoves (scope_of_moves plan)) plan.points points row well.rules.moves there) at)
  where
    of_row : (row : PointsPlan) (reverse : Bool) → HasWellMoves (scope_of_moves plan) row → (if reverse then row.free_reverse else row.free_normal) ≡ Some cond → IsWellCond (scope_of_moves plan) cond
    of_row row true fine there = subst (λ (move : Option Cond). IfSome move (IsWellCond (scope_of_moves plan))) there fine.free_reverse
    of_row row false fine there = subst (λ (move : Option Cond). IfSome move (IsWellCond (scope_of_moves plan))) there fine.free_normal

-- what the conditions of points may name
pub moves_scope : (plan : Plan) → IsScopeIn plan (scope_of_moves plan)
moves_scope plan = record { facts = omega arith; bits = omega arith; points = λ points lie asked. absurd cc }

-- what other conditions may name
pub conds_scope : (plan : Plan) (bits : ℕ) → bits ≤ 8 → IsScopeIn plan (scope_of_conds plan bits)
conds_scope plan bits few = record { facts = omega arith; bits = few; points = asked_known plan }

-- what is looked at in a state of the data set
looks : (plan : Plan) (scope : CondScope) (free : ℕ → Bool → Bool) (state : State) (report : ℕ) → IsWell plan → IsStateOf (counts_of plan) state → IsScopeIn plan scope → LooksAt (record { state = state; bits = bit_of report; free = free }) scope state report
looks plan scope free state report well whole scope_in =
    let few = few_facts plan well in
    record {
      state_is = refl;
      bits_are = refl;
      facts = omega (arith, whole.facts, scope_in.facts);
      bits = scope_in.bits;
      points = λ points lie asked. omega (arith, scope_in.points points lie asked, well.size.limits.points);
      few = omega (arith, whole.facts, few);
    }

-- where there is code of the own condition of points, the reading of that condition goes on from there: it gives whether they may be moved, and asks nothing
pub record MoveReading (plan : Plan) (state : State) (report points : ℕ) (lie : Bool) (base : ℕ) (stack : List Frame) (level : Frame) : Type 0 where
  pub reading : Reading
  pub fits : Fits reading base state report
  pub on : GoesOn reading stack level true
  pub under : reading.under ≡ reverse stack
  pub result : reading.result ≡ may_move state report (move_condition_of plan points lie)
  pub asks_none : (points : ℕ) (lie : Bool) → reading.scope.may_ask points lie ≡ true → ⊥

pub move_reading : (plan : Plan) (state : State) (report points : ℕ) (lie : Bool) (base : ℕ) (stack : List Frame) (level : Frame) (code : List ℕ) → IsWell plan → IsStateOf (counts_of plan) state → Some code ≡ option_map code_of_cond (move_condition_of plan points lie) → base ≡ length stack
    → level.items.now ≡ code → level.others.now ≡ [] → MoveReading plan state report points lie base stack level
move_reading plan state report points lie base stack level code well whole shown at items others = by_cond (move_condition_of plan points lie) refl
  where
    by_cond : (move : Option Cond) → move_condition_of plan points lie ≡ move → MoveReading plan state report points lie base stack level
    by_cond None none = absurd (let no : Some code ≡ None = shown ∙ ap (option_map code_of_cond) none in cc)
    by_cond (Some cond) there =
        let same : Some code ≡ Some (code_of_cond cond) = shown ∙ ap (option_map code_of_cond) there in
        let is : code ≡ code_of_cond cond = cc in
        record {
          reading = record { scene = move_scene state report; scope = scope_of_moves plan; under = reverse stack; result = holds_in (move_scene state report) cond };
          fits = record {
            under = length-reverse stack ∙ sym at;
            looks = looks plan (scope_of_moves plan) (λ points lie. false) state report well whole (moves_scope plan);
          };
          on = starts (move_scene state report) (scope_of_moves plan) cond stack level code (move_is_well plan points lie cond well there) is items others;
          under = refl;
          result = sym (ap (may_move state report) there);
          asks_none = λ points lie asked. absurd cc;
        }

-- ---- a condition of the data set

pub cond_fits : (plan : Plan) (scope : CondScope) (cond : Cond) (state : State) (report base : ℕ) (stack : List Frame) (code : List ℕ) → IsWell plan → IsStateOf (counts_of plan) state → IsCondCode plan scope cond code → base ≡ length stack → Fits (reading_of plan scope cond state report stack) base state report
cond_fits plan scope cond state report base stack code well whole is at = record { under = length-reverse stack ∙ sym at; looks = looks plan scope (is_free plan state report) state report well whole is.scope_in }

pub cond_starts : (plan : Plan) (scope : CondScope) (cond : Cond) (state : State) (report : ℕ) (stack : List Frame) (level : Frame) (code : List ℕ) → IsCondCode plan scope cond code → level.items.now ≡ code → level.others.now ≡ [] → GoesOn (reading_of plan scope cond state report stack) stack level true
cond_starts plan scope cond state report stack level code is items others = starts (scene_of plan state report) scope cond stack level code is.well is.is items others

-- a reading goes on with the answer, above the same frames
pub answered : (k : Reading) (old new : List Frame) (level : Frame) (value given : Bool) → new ≡ old → given ≡ value → GoesOn k old level value → GoesOn k new level given
answered k old new level value given same is on =
    subst (λ (v : Bool). GoesOn k new level v) (sym is) (subst (λ (stack : List Frame). GoesOn k stack level value) (sym same) on)
