-- What stands at the front of a level's code: an item of the kind that its first byte says.
use Rattle.std.proofs.Common.{◌≡◌, ℕ, ◌+◌, ◌<◌, ◌^◌, Bool, true, false, List, [], ◌∷◌, ◌++◌, length, map, Some, refl, sym, ap, subst, ◌∙◌, arith}
use Rattle.std.specs.Int.{w16, to_be_bytes}
use Rattle.std.proofs.lemmas.Bool.{ltb-true}
use Rattle.ssi_identities.specs.declared.rule.CondItem.TheVariants.{Lit, Bit, Free, Any}
use Rattle.ssi_identities.specs.declared.rule.Cond.{Cond}
use Rattle.ssi_identities.specs.Allowed.{CondScope, greatest, item_within, cond_within, item_levels, cond_levels, item_depth, cond_depth}
use Rattle.ssi_identities.specs.Codes.{IsShort, with_length, code_of_alternatives}
use Rattle.ssi_identities.specs.States.{truth_of}
use Rattle.ssi_identities.specs.Values.{Scene, is_as_wanted}
use Rattle.ssi_identities.proofs.Conditions.{lit_is, bit_is, free_is, any_is, cond_item_cases}
use Rattle.ssi_identities.proofs.Values.{lit_holds, bit_holds, free_holds, group_holds}
use Rattle.ssi_identities.proofs.Codes.{cond_op_same, lit_code, bit_code, free_code, group_code}
use Rattle.ssi_eval.specs.declared.frame.Frame.{Frame}
use Rattle.ssi_identities.specs.declared.opcode.CondOp.{CondOp}
use Rattle.ssi_identities.specs.declared.opcode.CondOp.TheVariants as op
use Rattle.ssi_eval.specs.Frames.{Gives}
use Rattle.ssi_identities.specs.Opcodes.{cond_byte_of, cond_op_of}
use Rattle.ssi_eval.proofs.Levels.{NextItem, next_item, alternatives_within}

-- a first byte says one kind
one_op : (a b : CondOp) → cond_byte_of a ≡ cond_byte_of b → a ≡ b
one_op a b same =
    let both : Some a ≡ Some b = sym (cond_op_same a) ∙ ap cond_op_of same ∙ cond_op_same b in
    cc

-- a test of a fact
pub record AtFact (scene : Scene) (scope : CondScope) (level : Frame) (frames : List Frame) (result : Bool) (operand : List ℕ) (wanted : Bool) : Type 0 where
  pub fact : ℕ
  pub rest : List ℕ
  pub is : operand ≡ to_be_bytes w16 fact ++ rest
  pub known : fact < scope.facts
  pub gives : (next : Frame) → next.items.now ≡ rest → next.others.now ≡ level.others.now → Gives scene scope (next ∷ frames) (is_as_wanted (truth_of scene.state fact) wanted) result

-- a test of a bit
pub record AtBit (scene : Scene) (scope : CondScope) (level : Frame) (frames : List Frame) (result : Bool) (operand : List ℕ) (wanted : Bool) : Type 0 where
  pub bit : ℕ
  pub rest : List ℕ
  pub is : operand ≡ bit ∷ rest
  pub known : bit < scope.bits
  pub gives : (next : Frame) → next.items.now ≡ rest → next.others.now ≡ level.others.now → Gives scene scope (next ∷ frames) (is_as_wanted (scene.bits bit) wanted) result

-- a question about points
pub record AtFree (scene : Scene) (scope : CondScope) (level : Frame) (frames : List Frame) (result : Bool) (operand : List ℕ) (lie : Bool) : Type 0 where
  pub points : ℕ
  pub rest : List ℕ
  pub is : operand ≡ to_be_bytes w16 points ++ rest
  pub asked : scope.may_ask points lie ≡ true
  pub gives : (next : Frame) → next.items.now ≡ rest → next.others.now ≡ level.others.now → Gives scene scope (next ∷ frames) (scene.free points lie) result

-- a group
pub record AtGroup (scene : Scene) (scope : CondScope) (level : Frame) (frames : List Frame) (result : Bool) (operand : List ℕ) : Type 0 where
  pub alternatives : List ℕ
  pub rest : List ℕ
  pub short : IsShort alternatives
  pub is : operand ≡ with_length alternatives ++ rest
  pub room : length frames < 8
  pub gives : (next group : Frame) → next.items.now ≡ rest → next.others.now ≡ level.others.now → group.items.now ≡ [] → group.others.now ≡ alternatives → Gives scene scope (group ∷ next ∷ frames) false result

-- an item of this kind
abbrev pub At : Scene → CondScope → Frame → List Frame → Bool → List ℕ → CondOp → Type 0
At scene scope level frames result operand (op.Fact wanted) = AtFact scene scope level frames result operand wanted
At scene scope level frames result operand (op.Bit wanted) = AtBit scene scope level frames result operand wanted
At scene scope level frames result operand (op.Free lie) = AtFree scene scope level frames result operand lie
At scene scope level frames result operand op.Group = AtGroup scene scope level frames result operand

-- the item with its first byte, and what follows that
pub record Front (scene : Scene) (scope : CondScope) (level : Frame) (frames : List Frame) (result : Bool) : Type 0 where
  pub kind : CondOp
  pub operand : List ℕ
  pub is : level.items.now ≡ cond_byte_of kind ∷ operand
  pub at : At scene scope level frames result operand kind

module _ (scene : Scene) (scope : CondScope) (level : Frame) (frames : List Frame) (result : Bool) where
  at_lit : (fact : ℕ) (wanted : Bool) → NextItem scene scope level frames result (Lit fact wanted) → Front scene scope level frames result
  at_lit fact wanted next = record {
    kind = op.Fact wanted;
    operand = to_be_bytes w16 fact ++ next.rest;
    is = next.is ∙ ap (λ (c : List ℕ). c ++ next.rest) (lit_code fact wanted);
    at = record {
      fact = fact;
      rest = next.rest;
      is = refl;
      known = ltb-true fact scope.facts (sym (lit_is Bool Bool (item_within scope) cond_within fact wanted) ∙ next.within);
      gives = λ g a b. subst (λ (v : Bool). Gives scene scope (g ∷ frames) v result) (lit_holds scene fact wanted) (next.gives g a b);
    };
  }

  at_bit : (bit : ℕ) (wanted : Bool) → NextItem scene scope level frames result (Bit bit wanted) → Front scene scope level frames result
  at_bit bit wanted next = record {
    kind = op.Bit wanted;
    operand = bit ∷ next.rest;
    is = next.is ∙ ap (λ (c : List ℕ). c ++ next.rest) (bit_code bit wanted);
    at = record {
      bit = bit;
      rest = next.rest;
      is = refl;
      known = ltb-true bit scope.bits (sym (bit_is Bool Bool (item_within scope) cond_within bit wanted) ∙ next.within);
      gives = λ g a b. subst (λ (v : Bool). Gives scene scope (g ∷ frames) v result) (bit_holds scene bit wanted) (next.gives g a b);
    };
  }

  at_free : (points : ℕ) (lie : Bool) → NextItem scene scope level frames result (Free points lie) → Front scene scope level frames result
  at_free points lie next = record {
    kind = op.Free lie;
    operand = to_be_bytes w16 points ++ next.rest;
    is = next.is ∙ ap (λ (c : List ℕ). c ++ next.rest) (free_code points lie);
    at = record {
      points = points;
      rest = next.rest;
      is = refl;
      asked = sym (free_is Bool Bool (item_within scope) cond_within points lie) ∙ next.within;
      gives = λ g a b. subst (λ (v : Bool). Gives scene scope (g ∷ frames) v result) (free_holds scene points lie) (next.gives g a b);
    };
  }

  at_any : (conds : List Cond) → NextItem scene scope level frames result (Any conds) → Front scene scope level frames result
  at_any conds next =
      let deep : item_depth (Any conds) ≡ 1 + greatest (map cond_depth conds) = any_is ℕ ℕ item_levels cond_levels conds in
      let depth = next.depth in
      let short : length (code_of_alternatives conds) < 2 ^ 32 = let whole = next.short in omega (arith, ap length (group_code conds)) in
      record {
        kind = op.Group;
        operand = with_length (code_of_alternatives conds) ++ next.rest;
        is = next.is ∙ ap (λ (c : List ℕ). c ++ next.rest) (group_code conds);
        at = record {
          alternatives = code_of_alternatives conds;
          rest = next.rest;
          short = short;
          is = refl;
          room = omega arith;
          gives = λ g group a b none alternatives. (
            [],
            conds,
            record {
              items_are = none;
              others_are = alternatives;
              items_short = omega arith;
              others_short = short;
              items_within = refl;
              others_within = alternatives_within scope conds next.within;
              items_depth = omega arith;
              others_depth = omega arith;
            },
            subst (λ (v : Bool). Gives scene scope (g ∷ frames) v result) (group_holds scene conds) (next.gives g a b),
          );
        };
      }

  -- an item stands where there are bytes left
  pub front : 0 < length level.items.now → Gives scene scope (level ∷ frames) true result → Front scene scope level frames result
  front more gives =
      let next = next_item scene scope level frames result more gives in
      cond_item_cases (λ item. NextItem scene scope level frames result item → Front scene scope level frames result) at_lit at_bit at_free at_any next.0 next.1

  -- the item whose kind was read
  pub at_kind : (kind : CondOp) (operand : List ℕ) → level.items.now ≡ cond_byte_of kind ∷ operand → 0 < length level.items.now → Gives scene scope (level ∷ frames) true result → At scene scope level frames result operand kind
  at_kind kind operand is more gives =
      let found = front more gives in
      let both : cond_byte_of found.kind ∷ found.operand ≡ cond_byte_of kind ∷ operand = sym found.is ∙ is in
      let byte : cond_byte_of found.kind ≡ cond_byte_of kind = cc in
      let rest : found.operand ≡ operand = cc in
      let same = one_op found.kind kind byte in
      subst (λ (o : List ℕ). At scene scope level frames result o kind) rest (subst (λ (k : CondOp). At scene scope level frames result found.operand k) same found.at)
