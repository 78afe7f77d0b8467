-- Code by hand is that of a condition: each item, list and group with its bytes and its depth.
use Rattle.std.proofs.Common.{◌≡◌, ℕ, ◌+◌, ◌<◌, ◌≤◌, ◌^◌, max, Bool, true, false, ◌&&◌, List, [], ◌∷◌, ◌++◌, length, map, refl, sym, ap, ◌∙◌, arith}
use Rattle.std.specs.Prelude.{if◌then◌else◌, reverse, nat_le, nat_lt}
use Rattle.std.specs.Int.{w16, to_be_bytes}
use Rattle.std.specs.List.{list_all}
use Rattle.std.proofs.lemmas.List.{length-map}
use Rattle.std.proofs.lemmas.List.Folds.{list_all-map}
use Rattle.ssi_identities.specs.declared.rule.CondItem.{CondItem}
use Rattle.ssi_identities.specs.declared.rule.CondItem.TheVariants.{Lit, Bit, Any}
use Rattle.ssi_identities.specs.declared.rule.Cond.{Cond}
use Rattle.ssi_identities.specs.Allowed.{greatest, item_within, cond_within, is_item_within, is_within, item_levels, cond_levels, item_depth, cond_depth}
use Rattle.ssi_identities.specs.Codes.{code_of_cond, code_of_item, with_length, code_of_items, code_of_alternatives}
use Rattle.ssi_identities.specs.States.{State, fact_total_of}
use Rattle.ssi_identities.specs.Values.{Scene, bit_of, cond_of, holds_in}
use Rattle.ssi_identities.proofs.Conditions.{lit_is, bit_is, any_is, cond_is}
use Rattle.ssi_identities.proofs.Codes.{lit_code, bit_code, group_code}
use Rattle.ssi_eval.specs.declared.frame.Frame.{Frame}
use Rattle.ssi_eval.specs.Frames.{Reading, Fits, GoesOn}
use Rattle.ssi_eval.specs.HandMade.{IsHandMade, four_facts}
use Rattle.ssi_eval.proofs.Starting.{starts}
use Rattle.ssi_eval.proofs.Levels.{code_by_items, depth_by_items}

-- an item with its code and its depth
pub record Item (code : List ℕ) (depth : ℕ) : Type 0 where
  pub item : CondItem
  pub is : code_of_item item ≡ code
  pub within : is_item_within four_facts item ≡ true
  pub deep : item_depth item ≡ depth

-- some items
pub record Items (code : List ℕ) (depth count : ℕ) : Type 0 where
  pub items : List CondItem
  pub is : code_of_items items ≡ code
  pub within : list_all (is_item_within four_facts) items ≡ true
  pub deep : greatest (map item_depth items) ≡ depth
  pub many : length items ≡ count

-- a condition
pub record Made (code : List ℕ) (depth : ℕ) : Type 0 where
  pub cond : Cond
  pub is : code_of_cond cond ≡ code
  pub within : is_within four_facts cond ≡ true
  pub deep : cond_depth cond ≡ depth

-- some alternatives
pub record Others (code : List ℕ) (depth count : ℕ) : Type 0 where
  pub conds : List Cond
  pub is : code_of_alternatives conds ≡ code
  pub within : list_all (is_within four_facts) conds ≡ true
  pub deep : greatest (map cond_depth conds) ≡ depth
  pub many : length conds ≡ count

both : (a b : Bool) → a ≡ true → b ≡ true → (a && b) ≡ true
both a b x y = ap (λ (v : Bool). v && b) x ∙ y

-- ---- tests

pub fact : (n : ℕ) (wanted : Bool) → nat_lt n 4 ≡ true → Item ((if wanted then 0x11 else 0x10) ∷ to_be_bytes w16 n) 0
fact n wanted known = record { item = Lit n wanted; is = lit_code n wanted; within = lit_is Bool Bool (item_within four_facts) cond_within n wanted ∙ known; deep = lit_is ℕ ℕ item_levels cond_levels n wanted }

pub bit : (n : ℕ) (wanted : Bool) → nat_lt n 8 ≡ true → Item ((if wanted then 0x13 else 0x12) ∷ n ∷ []) 0
bit n wanted known = record { item = Bit n wanted; is = bit_code n wanted; within = bit_is Bool Bool (item_within four_facts) cond_within n wanted ∙ known; deep = bit_is ℕ ℕ item_levels cond_levels n wanted }

-- ---- lists, conditions and groups

pub last : {code : List ℕ} {depth : ℕ} → Item code depth → Items (code ++ []) (max depth 0) 1
last x = record { items = x.item ∷ []; is = ap (λ (c : List ℕ). c ++ []) x.is; within = both (is_item_within four_facts x.item) true x.within refl; deep = ap (λ (n : ℕ). max n 0) x.deep; many = refl }

pub before : {code codes : List ℕ} {depth deeper count : ℕ} → Item code depth → Items codes deeper count → Items (code ++ codes) (max depth deeper) (1 + count)
before {code = code} {depth = depth} x xs = record {
  items = x.item ∷ xs.items;
  is = ap (λ (c : List ℕ). c ++ code_of_items xs.items) x.is ∙ ap (λ (c : List ℕ). code ++ c) xs.is;
  within = both (is_item_within four_facts x.item) (list_all (is_item_within four_facts) xs.items) x.within xs.within;
  deep = ap (λ (n : ℕ). max n (greatest (map item_depth xs.items))) x.deep ∙ ap (max depth) xs.deep;
  many = omega (arith, xs.many);
}

pub all : {code : List ℕ} {depth count : ℕ} → Items code depth count → nat_le 1 count ≡ true → Made code depth
all xs some =
    let tests = map (is_item_within four_facts) xs.items in
    let enough : nat_le 1 (length tests) ≡ true = ap (nat_le 1) (length-map xs.items (is_item_within four_facts) ∙ xs.many) ∙ some in
    record {
      cond = cond_of xs.items;
      is = code_by_items (cond_of xs.items) ∙ xs.is;
      within = cond_is Bool Bool (item_within four_facts) cond_within xs.items ∙ both (nat_le 1 (length tests)) (list_all (λ (b : Bool). b) tests) enough (list_all-map (λ (b : Bool). b) (is_item_within four_facts) xs.items ∙ xs.within);
      deep = depth_by_items (cond_of xs.items) ∙ xs.deep;
    }

pub or_last : {code : List ℕ} {depth : ℕ} → Made code depth → Others (with_length code ++ []) (max depth 0) 1
or_last x = record { conds = x.cond ∷ []; is = ap (λ (c : List ℕ). with_length c ++ []) x.is; within = both (is_within four_facts x.cond) true x.within refl; deep = ap (λ (n : ℕ). max n 0) x.deep; many = refl }

pub or : {code codes : List ℕ} {depth deeper count : ℕ} → Made code depth → Others codes deeper count → Others (with_length code ++ codes) (max depth deeper) (1 + count)
or {code = code} {depth = depth} x xs = record {
  conds = x.cond ∷ xs.conds;
  is = ap (λ (c : List ℕ). with_length c ++ code_of_alternatives xs.conds) x.is ∙ ap (λ (c : List ℕ). with_length code ++ c) xs.is;
  within = both (is_within four_facts x.cond) (list_all (is_within four_facts) xs.conds) x.within xs.within;
  deep = ap (λ (n : ℕ). max n (greatest (map cond_depth xs.conds))) x.deep ∙ ap (max depth) xs.deep;
  many = omega (arith, xs.many);
}

pub group : {code : List ℕ} {depth count : ℕ} → Others code depth count → nat_le 2 count ≡ true → Item (0x16 ∷ with_length code) (1 + depth)
group xs some =
    let tests = map (is_within four_facts) xs.conds in
    let enough : nat_le 2 (length tests) ≡ true = ap (nat_le 2) (length-map xs.conds (is_within four_facts) ∙ xs.many) ∙ some in
    record {
      item = Any xs.conds;
      is = group_code xs.conds ∙ ap (λ (c : List ℕ). 0x16 ∷ with_length c) xs.is;
      within = any_is Bool Bool (item_within four_facts) cond_within xs.conds ∙ both (nat_le 2 (length tests)) (list_all (λ (b : Bool). b) tests) enough (list_all-map (λ (b : Bool). b) (is_within four_facts) xs.conds ∙ xs.within);
      deep = any_is ℕ ℕ item_levels cond_levels xs.conds ∙ ap (λ (n : ℕ). 1 + n) xs.deep;
    }

-- `(.. or L4 s), L2 s` round a condition
pub round : {code : List ℕ} {depth : ℕ} → Made code depth
    → Made ((0x16 ∷ with_length (with_length code ++ (with_length ((0x11 ∷ to_be_bytes w16 3) ++ []) ++ []))) ++ ((0x11 ∷ to_be_bytes w16 1) ++ [])) (max (1 + max depth 0) 0)
round x = all (before (group (or x (or_last (all (last (fact 3 true refl)) refl))) refl) (last (fact 1 true refl))) refl

-- the whole is code by hand
pub hand_made : {code : List ℕ} {depth : ℕ} → Made code depth → depth ≤ 8 → length code < 2 ^ 32 → IsHandMade code
hand_made x shallow short = record {
  cond = x.cond;
  well = record { within = x.within; depth = omega (arith, x.deep, shallow); short = omega (arith, ap length x.is, short) };
  is = sym x.is;
}

-- the reading of a condition by hand goes on from its start, and asks nothing
pub record HandReading (state : State) (report : ℕ) (stack : List Frame) (level : Frame) : Type 0 where
  pub reading : Reading
  pub fits : Fits reading 0 state report
  pub on : GoesOn reading stack level true
  pub asks_none : (points : ℕ) (lie : Bool) → reading.scope.may_ask points lie ≡ true → ⊥

pub hand_reading : (state : State) (report : ℕ) (stack : List Frame) (level : Frame) (code : List ℕ) → fact_total_of state ≡ 4 → IsHandMade code → stack ≡ [] → level.items.now ≡ code → level.others.now ≡ [] → HandReading state report stack level
hand_reading state report stack level code facts made empty items others =
    let scene : Scene = record { state = state; bits = bit_of report; free = λ points lie. false } in
    record {
      reading = record { scene = scene; scope = four_facts; under = reverse stack; result = holds_in scene made.cond };
      fits = record {
        under = ap (λ (s : List Frame). length (reverse s)) empty;
        looks = record {
          state_is = refl;
          bits_are = refl;
          facts = omega (arith, facts);
          bits = omega arith;
          points = λ points lie asked. absurd cc;
          few = omega (arith, facts);
        };
      };
      on = starts scene four_facts made.cond stack level code made.well made.is items others;
      asks_none = λ points lie asked. absurd cc;
    }
