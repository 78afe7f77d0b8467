-- A level of a condition: what it comes to where nothing is left, its next alternative and its next item.
use Rattle.std.proofs.Common.{◌≡◌, ℕ, ◌+◌, ◌<◌, ◌≤◌, Bool, true, false, ◌&&◌, ◌||◌, List, [], ◌∷◌, ◌++◌, length, map, refl, sym, ap, subst, ◌∙◌, length-append, arith}
use Rattle.std.specs.Prelude.{if◌then◌else◌, ◌==◌, nat_le}
use Rattle.std.specs.List.{list_all, list_any}
use Rattle.std.proofs.lemmas.List.Folds.{list_all-map}
use Rattle.ssi_identities.specs.declared.rule.CondItem.{CondItem}
use Rattle.ssi_identities.specs.declared.rule.CondItem.TheVariants.{Any}
use Rattle.ssi_identities.specs.declared.rule.Cond.{Cond}
use Rattle.ssi_identities.specs.Allowed.{CondScope, greatest, item_within, cond_within, is_item_within, is_within, item_levels, cond_levels, item_depth, cond_depth}
use Rattle.ssi_identities.specs.Codes.{IsShort, item_code, cond_code, code_of_item, code_of_cond, with_length, code_of_items, code_of_alternatives}
use Rattle.ssi_identities.specs.Values.{Scene, item_holds, holds_in}
use Rattle.ssi_identities.proofs.Conditions.{any_is, cond_is, cond_item_cases}
use Rattle.ssi_identities.proofs.Values.{all_hold}
use Rattle.ssi_identities.proofs.Codes.{lit_code, bit_code, free_code, group_code}
use Rattle.ssi_eval.specs.declared.frame.Frame.{Frame}
use Rattle.ssi_eval.specs.Frames.{IsLevel, Gives}

pub and_first : (a b : Bool) → (a && b) ≡ true → a ≡ true
and_first true b h = refl
and_first false b h = absurd cc

pub and_second : (a b : Bool) → (a && b) ≡ true → b ≡ true
and_second true b h = h
and_second false b h = absurd cc

-- ---- a condition is its items

pub code_by_items : (cond : Cond) → code_of_cond cond ≡ code_of_items cond.items
code_by_items cond = cond_is (List ℕ) (List ℕ) item_code cond_code cond.items

pub depth_by_items : (cond : Cond) → cond_depth cond ≡ greatest (map item_depth cond.items)
depth_by_items cond = cond_is ℕ ℕ item_levels cond_levels cond.items

-- the items of a condition that names what its place allows do so too
pub items_within : (scope : CondScope) (cond : Cond) → is_within scope cond ≡ true → list_all (is_item_within scope) cond.items ≡ true
items_within scope cond within =
    let tests = map (is_item_within scope) cond.items in
    sym (list_all-map (λ (b : Bool). b) (is_item_within scope) cond.items) ∙ and_second (nat_le 1 (length tests)) (list_all (λ (b : Bool). b) tests) (sym (cond_is Bool Bool (item_within scope) cond_within cond.items) ∙ within)

-- the alternatives of a group that names what its place allows do so too
pub alternatives_within : (scope : CondScope) (conds : List Cond) → is_item_within scope (Any conds) ≡ true → list_all (is_within scope) conds ≡ true
alternatives_within scope conds within =
    let tests = map (is_within scope) conds in
    sym (list_all-map (λ (b : Bool). b) (is_within scope) conds) ∙ and_second (nat_le 2 (length tests)) (list_all (λ (b : Bool). b) tests) (sym (any_is Bool Bool (item_within scope) cond_within conds) ∙ within)

item_is_long : (item : CondItem) → 0 < length (code_of_item item)
item_is_long = cond_item_cases (λ item. 0 < length (code_of_item item))
    (λ fact wanted. omega (arith, ap length (lit_code fact wanted)))
    (λ bit wanted. omega (arith, ap length (bit_code bit wanted)))
    (λ points lie. omega (arith, ap length (free_code points lie)))
    (λ conds. omega (arith, ap length (group_code conds)))

-- ---- a level is settled

-- all of no items hold
items_end : (scene : Scene) (items : List CondItem) → length (code_of_items items) ≡ 0 → list_all (item_holds scene) items ≡ true
items_end scene [] none = refl
items_end scene (item ∷ items) none = absurd (omega (arith, item_is_long item, length-append (code_of_item item) (code_of_items items)))

-- none of no alternatives holds
others_end : (scene : Scene) (others : List Cond) → length (code_of_alternatives others) ≡ 0 → list_any (holds_in scene) others ≡ false
others_end scene [] none = refl
others_end scene (cond ∷ others) none = absurd (omega (arith, length-append (with_length (code_of_cond cond)) (code_of_alternatives others)))

or_true : (a b : Bool) → a ≡ true → (a || b) ≡ true
or_true true b h = refl
or_true false b h = absurd cc

-- what the code asks of a level: are its items at their end where the last held, and its alternatives where it didn't?
abbrev pub is_settled : Bool → Frame → Bool
is_settled value level = if value then length level.items.now == 0 else length level.others.now == 0

-- the value of a settled level is that of its last item, and the levels round it go on with it
pub settled : (scene : Scene) (scope : CondScope) (level : Frame) (frames : List Frame) (value result : Bool) → is_settled value level ≡ true → Gives scene scope (level ∷ frames) value result → Gives scene scope frames value result
settled scene scope level frames true result done gives =
    let none : length level.items.now ≡ 0 = grind arith in
    let all : list_all (item_holds scene) gives.0 ≡ true = items_end scene gives.0 (sym (ap length gives.2.items_are) ∙ none) in
    subst (λ (v : Bool). Gives scene scope frames v result) (or_true (list_all (item_holds scene) gives.0) (list_any (holds_in scene) gives.1) all) gives.3
settled scene scope level frames false result done gives =
    let none : length level.others.now ≡ 0 = grind arith in
    let no : list_any (holds_in scene) gives.1 ≡ false = others_end scene gives.1 (sym (ap length gives.2.others_are) ∙ none) in
    subst (λ (v : Bool). Gives scene scope frames v result) no gives.3

pub more_items : (value : Bool) (level : Frame) → is_settled value level ≡ false → value ≡ true → 0 < length level.items.now
more_items true level more is = grind arith
more_items false level more is = absurd cc

pub more_others : (value : Bool) (level : Frame) → is_settled value level ≡ false → value ≡ false → 0 < length level.others.now
more_others true level more is = absurd cc
more_others false level more is = grind arith

-- ---- the next alternative

pub record NextAlternative (scene : Scene) (scope : CondScope) (level : Frame) (frames : List Frame) (result : Bool) : Type 0 where
  pub piece : List ℕ
  pub rest : List ℕ
  pub short : IsShort piece
  pub is : level.others.now ≡ with_length piece ++ rest
  pub gives : (next : Frame) → next.items.now ≡ piece → next.others.now ≡ rest → Gives scene scope (next ∷ frames) true result

pub next_alternative : (scene : Scene) (scope : CondScope) (level : Frame) (frames : List Frame) (result : Bool) → 0 < length level.others.now → Gives scene scope (level ∷ frames) false result → NextAlternative scene scope level frames result
next_alternative scene scope level frames result more gives = by_others gives.1 gives.2 gives.3
  where
    by_others : (others : List Cond) → IsLevel scope (length frames) level gives.0 others → Gives scene scope frames (list_any (holds_in scene) others) result → NextAlternative scene scope level frames result
    by_others [] is go = absurd (omega (arith, ap length is.others_are))
    by_others (cond ∷ others) is go =
        let long = length-append (with_length (code_of_cond cond)) (code_of_alternatives others) in
        let short = is.others_short in
        let deep = is.others_depth in
        let same = code_by_items cond in
        record {
          piece = code_of_cond cond;
          rest = code_of_alternatives others;
          short = omega arith;
          is = is.others_are;
          gives = λ next items_are others_are. (
            cond.items,
            others,
            record {
              items_are = items_are ∙ same;
              others_are = others_are;
              items_short = omega (arith, ap length same);
              others_short = omega arith;
              items_within = items_within scope cond (and_first (is_within scope cond) (list_all (is_within scope) others) is.others_within);
              others_within = and_second (is_within scope cond) (list_all (is_within scope) others) is.others_within;
              items_depth = omega (arith, depth_by_items cond);
              others_depth = omega arith;
            },
            subst (λ (v : Bool). Gives scene scope frames (v || list_any (holds_in scene) others) result) (all_hold scene cond.items) go,
          );
        }

-- ---- the next item

pub record NextItem (scene : Scene) (scope : CondScope) (level : Frame) (frames : List Frame) (result : Bool) (item : CondItem) : Type 0 where
  pub rest : List ℕ
  pub is : level.items.now ≡ code_of_item item ++ rest
  pub within : is_item_within scope item ≡ true
  pub short : IsShort (code_of_item item)
  pub depth : length frames + item_depth item ≤ 8
  pub gives : (next : Frame) → next.items.now ≡ rest → next.others.now ≡ level.others.now → Gives scene scope (next ∷ frames) (item_holds scene item) result

pub next_item : (scene : Scene) (scope : CondScope) (level : Frame) (frames : List Frame) (result : Bool) → 0 < length level.items.now → Gives scene scope (level ∷ frames) true result → (item : CondItem) × NextItem scene scope level frames result item
next_item scene scope level frames result more gives = by_items gives.0 gives.2 gives.3
  where
    by_items : (items : List CondItem) → IsLevel scope (length frames) level items gives.1 → Gives scene scope frames (list_all (item_holds scene) items || list_any (holds_in scene) gives.1) result → (item : CondItem) × NextItem scene scope level frames result item
    by_items [] is go = absurd (omega (arith, ap length is.items_are))
    by_items (item ∷ items) is go =
        let long = length-append (code_of_item item) (code_of_items items) in
        let short = is.items_short in
        let deep = is.items_depth in (
          item,
          record {
            rest = code_of_items items;
            is = is.items_are;
            within = and_first (is_item_within scope item) (list_all (is_item_within scope) items) is.items_within;
            short = omega arith;
            depth = omega arith;
            gives = λ next items_are others_are. (
              items,
              gives.1,
              record {
                items_are = items_are;
                others_are = others_are ∙ is.others_are;
                items_short = omega arith;
                others_short = is.others_short;
                items_within = and_second (is_item_within scope item) (list_all (is_item_within scope) items) is.items_within;
                others_within = is.others_within;
                items_depth = omega arith;
                others_depth = is.others_depth;
              },
              go,
            );
          },
        )
