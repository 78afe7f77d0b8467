-- What stands at the front of a body's code: an item of the kind that its first byte says.
use Rattle.std.proofs.Common.{◌≡◌, ◌≢◌, ℕ, ◌+◌, ◌<◌, ◌^◌, max, Bool, true, ◌&&◌, List, ◌∷◌, ◌++◌, length, Option, Some, option_map, refl, sym, ap, subst, ◌∙◌, length-append, arith}
use Rattle.std.specs.Prelude.{nat_le}
use Rattle.std.specs.Int.{w16, to_be_bytes}
use Rattle.std.proofs.lemmas.Bool.{leb-true}
use Rattle.ssi_identities.specs.declared.rule.Cmd.{Cmd}
use Rattle.ssi_identities.specs.declared.rule.Cond.{Cond}
use Rattle.ssi_identities.specs.declared.rule.BodyItem.TheVariants.{Do, If}
use Rattle.ssi_identities.specs.declared.rule.Body.{Body}
use Rattle.ssi_identities.specs.Allowed.{BodyScope, is_within, cond_depth, part_within, body_within, is_body_within, else_within, part_levels, body_levels, part_depth, body_depth, else_levels}
use Rattle.ssi_identities.specs.Codes.{code_of_body, code_of_cond, else_code, with_length}
use Rattle.ssi_identities.specs.DataSets.{Plan, counts_of}
use Rattle.ssi_identities.specs.Facts.{fact_count_of}
use Rattle.ssi_identities.specs.States.{State, with_truth}
use Rattle.ssi_identities.specs.Steps.{body_of, effect_of}
use Rattle.ssi_identities.specs.Values.{value_of}
use Rattle.ssi_identities.proofs.Bodies.{do_is, if_is, body_item_cases}
use Rattle.ssi_identities.proofs.Laws.{effect_of_do}
use Rattle.ssi_identities.proofs.Codes.{body_op_same, command_code, choice_code}
use Rattle.ssi_eval.specs.declared.frame.Frame.{Frame}
use Rattle.ssi_identities.specs.declared.opcode.BodyOp.{BodyOp}
use Rattle.ssi_identities.specs.declared.opcode.BodyOp.TheVariants as op
use Rattle.ssi_eval.specs.Acting.{Leaves, LeavesFrom}
use Rattle.ssi_eval.specs.BodyCodes.{IsBodyScopeIn, IsChoiceCode, taken}
use Rattle.ssi_identities.specs.Opcodes.{body_byte_of, body_op_of}
use Rattle.ssi_eval.proofs.BodyLevels.{NextPart, next_part, code_by_parts, choice_effect, taken_within, taken_depth}
use Rattle.ssi_eval.proofs.Choices.{taken_short}
use Rattle.ssi_eval.proofs.Levels.{and_first, and_second}

-- a first byte says one kind
one_op : (a b : BodyOp) → body_byte_of a ≡ body_byte_of b → a ≡ b
one_op a b same =
    let both : Some a ≡ Some b = sym (body_op_same a) ∙ ap body_op_of same ∙ body_op_same b in
    cc

module _ (plan : Plan) (scope : BodyScope) (scope_in : IsBodyScopeIn plan scope) (report : ℕ) (frames : List Frame) (state last : State) where
  -- a command
  pub record AtSet (operand : List ℕ) (value : Bool) : Type 0 where
    pub fact : ℕ
    pub rest : List ℕ
    pub is : operand ≡ to_be_bytes w16 fact ++ rest
    pub known : fact < fact_count_of (counts_of plan)
    pub on : LeavesFrom plan scope report rest frames (with_truth state fact value) last

  -- a choice
  pub record AtIf (operand : List ℕ) : Type 0 where
    pub guard : Cond
    pub then_body : Body
    pub else_body : Option Body
    pub choice : List ℕ
    pub rest : List ℕ
    pub is : operand ≡ with_length choice ++ rest
    pub choice_is : IsChoiceCode plan scope guard then_body else_body choice
    pub room : length frames < 8
    pub on : (outer : Frame) (branch : List ℕ) → outer.items.now ≡ rest → branch ≡ code_of_body (taken (value_of plan guard state report) then_body else_body) → LeavesFrom plan scope report branch (outer ∷ frames) state last

  -- an item of this kind
  abbrev pub At : List ℕ → BodyOp → Type 0
  At operand (op.Set value) = AtSet operand value
  At operand op.If = AtIf operand

  -- the item with its first byte, and what follows that
  pub record Front (code : List ℕ) : Type 0 where
    pub kind : BodyOp
    pub operand : List ℕ
    pub is : code ≡ body_byte_of kind ∷ operand
    pub at : At operand kind

  at_do : (code : List ℕ) (command : Cmd) → NextPart plan scope report frames state last code (Do command) → Front code
  at_do code command next = record {
    kind = op.Set command.value;
    operand = to_be_bytes w16 command.fact ++ next.rest;
    is = next.is ∙ ap (λ (c : List ℕ). c ++ next.rest) (command_code command);
    at = record {
      fact = command.fact;
      rest = next.rest;
      is = refl;
      known = scope_in.commands command.fact (sym (do_is Bool Bool (part_within scope) body_within command) ∙ next.within);
      on = subst (λ (s : State). LeavesFrom plan scope report next.rest frames s last) (effect_of_do plan command state report) next.on;
    };
  }

  at_if : (code : List ℕ) (guard : Cond) (body : Body) (other : Option Body) → NextPart plan scope report frames state last code (If guard body other) → Front code
  at_if code guard body other next =
      let g = code_of_cond guard in
      let branches = with_length (code_of_body body) ++ else_code (option_map code_of_body other) in
      let choice = with_length g ++ branches in
      let whole = next.short in
      let short : length choice < 2 ^ 32 = omega (arith, ap length (choice_code guard body other)) in
      let guard_in = is_within scope.guards guard in
      let branches_in = is_body_within scope body && else_within (option_map (is_body_within scope) other) in
      let shallow = nat_le (cond_depth guard) 8 in
      let within : (guard_in && (shallow && branches_in)) ≡ true = sym (if_is Bool Bool (part_within scope) body_within guard body other) ∙ next.within in
      let deep : part_depth (If guard body other) ≡ 1 + max (body_depth body) (else_levels (option_map body_depth other)) = if_is ℕ ℕ part_levels body_levels guard body other in
      let depth = next.depth in
      let value = value_of plan guard state report in
      let choice_is : IsChoiceCode plan scope guard body other choice = record {
        guard_is = record {
          scope_in = scope_in.guards;
          well = record {
            within = and_first guard_in (shallow && branches_in) within;
            depth = leb-true (cond_depth guard) 8 (and_first shallow branches_in (and_second guard_in (shallow && branches_in) within));
            short = omega (arith, short, length-append (with_length g) branches);
          };
          is = refl;
        };
        short = short;
        is = refl;
      } in
      record {
        kind = op.If;
        operand = with_length choice ++ next.rest;
        is = next.is ∙ ap (λ (c : List ℕ). c ++ next.rest) (choice_code guard body other);
        at = record {
          guard = guard;
          then_body = body;
          else_body = other;
          choice = choice;
          rest = next.rest;
          is = refl;
          choice_is = choice_is;
          room = omega arith;
          on = λ outer branch rest_is branch_is. (
            (taken value body other).items,
            record {
              is = branch_is ∙ code_by_parts (taken value body other);
              short = omega (arith, ap length branch_is, taken_short plan scope guard body other choice choice_is value, short);
              within = taken_within scope value body other (and_second shallow branches_in (and_second guard_in (shallow && branches_in) within));
              depth = omega (arith, taken_depth value body other);
            },
            (
              next.on.0,
              record { is = rest_is ∙ next.on.1.is; short = omega (arith, ap length rest_is, next.on.1.short); within = next.on.1.within; depth = next.on.1.depth },
              subst (λ (s : State). Leaves plan scope report frames (effect_of plan (body_of next.on.0) s report) last) (choice_effect plan guard body other state report) next.on.2,
            ),
          );
        };
      }

  -- an item stands where there are bytes left
  pub front : (code : List ℕ) → length code ≢ 0 → LeavesFrom plan scope report code frames state last → Front code
  front code some on =
      let next = next_part plan scope report frames state last code some on in
      body_item_cases (λ part. NextPart plan scope report frames state last code part → Front code) (at_do code) (at_if code) next.0 next.1

  -- the item whose kind was read
  pub kind_at : (code operand : List ℕ) (read kind : BodyOp) → code ≡ body_byte_of read ∷ operand → read ≡ kind → LeavesFrom plan scope report code frames state last → At operand kind
  kind_at code operand read kind is same on =
      let whole = is ∙ ap (λ (k : BodyOp). body_byte_of k ∷ operand) same in
      let found = front code (λ none. absurd (omega (arith, none, ap length whole))) on in
      let both : body_byte_of found.kind ∷ found.operand ≡ body_byte_of kind ∷ operand = sym found.is ∙ whole in
      let byte : body_byte_of found.kind ≡ body_byte_of kind = cc in
      let rest : found.operand ≡ operand = cc in
      let one = one_op found.kind kind byte in
      subst (λ (o : List ℕ). At o kind) rest (subst (λ (k : BodyOp). At found.operand k) one found.at)
