-- A level of a body: what it comes to where nothing is left, and its next item.
use Rattle.std.proofs.Common.{◌≡◌, ◌≢◌, ℕ, ◌+◌, ◌<◌, ◌≤◌, max, Bool, true, false, ◌&&◌, List, [], ◌∷◌, ◌++◌, length, map, Option, Some, None, option_map, refl, sym, ap, subst, ◌∙◌, length-append, arith}
use Rattle.std.specs.Prelude.{if◌then◌else◌, nat_le}
use Rattle.std.specs.List.{list_all}
use Rattle.std.proofs.lemmas.List.Folds.{list_all-map}
use Rattle.ssi_identities.specs.declared.rule.Cond.{Cond}
use Rattle.ssi_identities.specs.declared.rule.BodyItem.{BodyItem}
use Rattle.ssi_identities.specs.declared.rule.BodyItem.TheVariants.{If}
use Rattle.ssi_identities.specs.declared.rule.Body.{Body}
use Rattle.ssi_identities.specs.Allowed.{BodyScope, greatest, part_within, body_within, is_part_within, is_body_within, else_within, part_levels, body_levels, part_depth, body_depth, else_levels}
use Rattle.ssi_identities.specs.Codes.{IsShort, body_code, part_code, code_of_body, code_of_part, code_of_parts}
use Rattle.ssi_identities.specs.DataSets.{Plan}
use Rattle.ssi_identities.specs.States.{State}
use Rattle.ssi_identities.specs.Steps.{body_of, effect_of, item_effect_of}
use Rattle.ssi_identities.specs.Values.{value_of}
use Rattle.ssi_identities.proofs.Bodies.{body_is, body_item_cases}
use Rattle.ssi_identities.proofs.Laws.{effect_of_none, effect_of_items, effect_of_if, effect_of_if_else}
use Rattle.ssi_identities.proofs.Codes.{command_code, choice_code}
use Rattle.ssi_eval.specs.declared.frame.Frame.{Frame}
use Rattle.ssi_eval.specs.Acting.{IsBodyLevel, Leaves, LeavesFrom}
use Rattle.ssi_eval.specs.BodyCodes.{taken}
use Rattle.ssi_eval.proofs.Levels.{and_first, and_second}

-- ---- a body is its items

pub code_by_parts : (body : Body) → code_of_body body ≡ code_of_parts body.items
code_by_parts body = body_is (List ℕ) (List ℕ) part_code body_code body.items

pub depth_by_parts : (body : Body) → body_depth body ≡ greatest (map part_depth body.items)
depth_by_parts body = body_is ℕ ℕ part_levels body_levels body.items

-- the items of a body that names what its place allows do so too
pub parts_within : (scope : BodyScope) (body : Body) → is_body_within scope body ≡ true → list_all (is_part_within scope) body.items ≡ true
parts_within scope body within =
    let tests = map (is_part_within scope) body.items in
    sym (list_all-map (λ (b : Bool). b) (is_part_within scope) body.items) ∙ and_second (nat_le 1 (length tests)) (list_all (λ (b : Bool). b) tests) (sym (body_is Bool Bool (part_within scope) body_within body.items) ∙ within)

part_is_long : (part : BodyItem) → 0 < length (code_of_part part)
part_is_long = body_item_cases (λ part. 0 < length (code_of_part part))
    (λ command. omega (arith, ap length (command_code command)))
    (λ guard body other. omega (arith, ap length (choice_code guard body other)))

-- ---- the branch that is taken

-- a choice does what the branch does that is taken
pub choice_effect : (plan : Plan) (guard : Cond) (body : Body) (other : Option Body) (state : State) (report : ℕ) → item_effect_of plan (If guard body other) state report ≡ effect_of plan (taken (value_of plan guard state report) body other) state report
choice_effect plan guard body None state report = effect_of_if plan guard body state report ∙ by_value (value_of plan guard state report)
  where
    by_value : (value : Bool) → (if value then effect_of plan body state report else state) ≡ effect_of plan (taken value body None) state report
    by_value true = refl
    by_value false = sym (effect_of_none plan state report)
choice_effect plan guard body (Some other) state report = effect_of_if_else plan guard body other state report ∙ by_value (value_of plan guard state report)
  where
    by_value : (value : Bool) → (if value then effect_of plan body state report else effect_of plan other state report) ≡ effect_of plan (taken value body (Some other)) state report
    by_value true = refl
    by_value false = refl

-- it names what its place allows
pub taken_within : (scope : BodyScope) (value : Bool) (body : Body) (other : Option Body) → (is_body_within scope body && else_within (option_map (is_body_within scope) other)) ≡ true → list_all (is_part_within scope) (taken value body other).items ≡ true
taken_within scope true body None within = parts_within scope body (and_first (is_body_within scope body) true within)
taken_within scope true body (Some other) within = parts_within scope body (and_first (is_body_within scope body) (is_body_within scope other) within)
taken_within scope false body None within = refl
taken_within scope false body (Some other) within = parts_within scope other (and_second (is_body_within scope body) (is_body_within scope other) within)

-- it is no deeper than the deeper branch
pub taken_depth : (value : Bool) (body : Body) (other : Option Body) → greatest (map part_depth (taken value body other).items) ≤ max (body_depth body) (else_levels (option_map body_depth other))
taken_depth true body None = omega (arith, depth_by_parts body)
taken_depth true body (Some other) = omega (arith, depth_by_parts body)
taken_depth false body None = omega arith
taken_depth false body (Some other) = omega (arith, depth_by_parts other)

module _ (plan : Plan) (scope : BodyScope) (report : ℕ) (frames : List Frame) (state last : State) where
  -- ---- a level ends

  -- no item is left, and the levels round it act
  pub ended : (code : List ℕ) → length code ≡ 0 → LeavesFrom plan scope report code frames state last → Leaves plan scope report frames state last
  ended code none on = by_parts on.0 on.1 on.2
    where
      by_parts : (parts : List BodyItem) → IsBodyLevel scope (length frames) code parts → Leaves plan scope report frames (effect_of plan (body_of parts) state report) last → Leaves plan scope report frames state last
      by_parts [] level go = subst (λ (s : State). Leaves plan scope report frames s last) (effect_of_none plan state report) go
      by_parts (part ∷ parts) level go = absurd (omega (arith, none, ap length level.is, part_is_long part, length-append (code_of_part part) (code_of_parts parts)))

  -- ---- the next item

  pub record NextPart (code : List ℕ) (part : BodyItem) : Type 0 where
    pub rest : List ℕ
    pub is : code ≡ code_of_part part ++ rest
    pub within : is_part_within scope part ≡ true
    pub short : IsShort (code_of_part part)
    pub depth : length frames + part_depth part ≤ 8
    pub on : LeavesFrom plan scope report rest frames (item_effect_of plan part state report) last

  pub next_part : (code : List ℕ) → length code ≢ 0 → LeavesFrom plan scope report code frames state last → (part : BodyItem) × NextPart code part
  next_part code some on = by_parts on.0 on.1 on.2
    where
      by_parts : (parts : List BodyItem) → IsBodyLevel scope (length frames) code parts → Leaves plan scope report frames (effect_of plan (body_of parts) state report) last → (part : BodyItem) × NextPart code part
      by_parts [] level go = absurd (some (ap length level.is))
      by_parts (part ∷ parts) level go =
          let long = length-append (code_of_part part) (code_of_parts parts) in
          let short = level.short in
          let same = level.is in
          let deep = level.depth in (
            part,
            record {
              rest = code_of_parts parts;
              is = same;
              within = and_first (is_part_within scope part) (list_all (is_part_within scope) parts) level.within;
              short = omega (arith, ap length same);
              depth = omega arith;
              on = (
                parts,
                record {
                  is = refl;
                  short = omega (arith, ap length same);
                  within = and_second (is_part_within scope part) (list_all (is_part_within scope) parts) level.within;
                  depth = omega arith;
                },
                subst (λ (s : State). Leaves plan scope report frames s last) (effect_of_items plan part parts state report) go,
              );
            },
          )
