-- Each turn of a body's run keeps what its levels leave.
use Rattle.std.proofs.Common.{◌≡◌, ◌≢◌, ℕ, ◌+◌, ◌<◌, ◌≤◌, Bool, true, false, List, [], ◌∷◌, ◌++◌, length, Option, refl, sym, ap, subst, ◌∙◌, length-append, arith}
use Rattle.std.specs.Prelude.{reverse}
use Rattle.ssi_identities.specs.declared.rule.Cond.{Cond}
use Rattle.ssi_identities.specs.declared.rule.Body.{Body}
use Rattle.ssi_identities.specs.Allowed.{BodyScope}
use Rattle.ssi_identities.specs.Codes.{code_of_body, with_length}
use Rattle.ssi_identities.specs.DataSets.{Plan, counts_of}
use Rattle.ssi_identities.specs.Facts.{fact_count_of}
use Rattle.ssi_identities.specs.States.{State, with_truth}
use Rattle.ssi_identities.specs.Steps.{effect_of}
use Rattle.ssi_identities.specs.Values.{value_of}
use Rattle.ssi_identities.specs.Wells.{IsWell}
use Rattle.ssi_eval.specs.declared.frame.Frame.{Frame}
use Rattle.ssi_eval.specs.Acting.{Leaves, LeavesFrom}
use Rattle.ssi_eval.specs.BodyCodes.{IsBodyScopeIn, IsBodyCode, IsChoiceCode, IsSomeChoiceCode, taken}
use Rattle.ssi_eval.specs.Pieces.{BeginsPart, BeginsPiece}
use Rattle.ssi_eval.proofs.BodyFronts.{AtSet, AtIf, front}
use Rattle.ssi_eval.proofs.BodyLevels.{code_by_parts, depth_by_parts, parts_within, ended}
use Rattle.ssi_eval.proofs.Choices.{taken_short}
use Rattle.ssi_eval.proofs.ReadItems.{IsNumber, IsPiece}
use Rattle.ssi_eval.proofs.Starting.{few_facts}
use Rattle.ssi_eval.proofs.Walking.{on_top}

-- a body begins at its code, with no level round it
pub starts : (plan : Plan) (scope : BodyScope) (report : ℕ) (body : Body) (code : List ℕ) (stack : List Frame) (state : State) → stack ≡ [] → IsBodyCode plan scope body code → LeavesFrom plan scope report code (reverse stack) state (effect_of plan body state report)
starts plan scope report body code stack state none is =
    subst (λ (frames : List Frame). LeavesFrom plan scope report code (reverse frames) state (effect_of plan body state report)) (sym none) (
      body.items,
      record {
        is = is.is ∙ code_by_parts body;
        short = let short = is.well.short in omega (arith, ap length is.is);
        within = parts_within scope body is.well.within;
        depth = let depth = is.well.depth in omega (arith, depth_by_parts body);
      },
      refl,
    )

-- a body ends where no level is left
pub finished : (plan : Plan) (scope : BodyScope) (report : ℕ) (code : List ℕ) (stack : List Frame) (state last : State) → stack ≡ [] → length code ≡ 0 → LeavesFrom plan scope report code (reverse stack) state last → state ≡ last
finished plan scope report code stack state last none end on = subst (λ (frames : List Frame). Leaves plan scope report (reverse frames) state last) none (ended plan scope report (reverse stack) state last code end on)

-- the level round it goes on
pub left : (plan : Plan) (scope : BodyScope) (report : ℕ) (code : List ℕ) (old new : List Frame) (outer : Frame) (state last : State) → old ≡ new ++ outer ∷ [] → length code ≡ 0 → LeavesFrom plan scope report code (reverse old) state last → LeavesFrom plan scope report outer.items.now (reverse new) state last
left plan scope report code old new outer state last is end on = subst (λ (frames : List Frame). Leaves plan scope report frames state last) (on_top new old outer is) (ended plan scope report (reverse old) state last code end on)

-- a level is set aside
pub aside : (plan : Plan) (scope : BodyScope) (report : ℕ) (code : List ℕ) (old new : List Frame) (outer : Frame) (state last : State) → new ≡ old ++ outer ∷ [] → LeavesFrom plan scope report code (outer ∷ reverse old) state last → LeavesFrom plan scope report code (reverse new) state last
aside plan scope report code old new outer state last is on = subst (λ (frames : List Frame). LeavesFrom plan scope report code frames state last) (sym (on_top old new outer is)) on

-- nothing was taken from the stack
pub empty_of : (stack : List Frame) → (0 < length stack → false ≡ true) → stack ≡ []
empty_of [] none = refl
empty_of (frame ∷ stack) none = let no : false ≡ true = none (omega arith) in absurd cc

module _ (plan : Plan) (scope : BodyScope) (scope_in : IsBodyScopeIn plan scope) (report : ℕ) (frames : List Frame) (state last : State) where
  -- an item stands there
  pub begins : (code : List ℕ) → length code ≢ 0 → LeavesFrom plan scope report code frames state last → BeginsPart code
  begins code some on =
      let item = front plan scope scope_in report frames state last code some on in
      record { op = item.kind; rest = item.operand; is = item.is }

  module _ (operand : List ℕ) where
    -- ---- a command

    pub set_long : (value : Bool) → AtSet plan scope scope_in report frames state last operand value → 2 ≤ length operand
    set_long value at = omega (arith, ap length at.is)

    pub set_known : (n : ℕ) (after : List ℕ) (value : Bool) → IsWell plan → IsNumber operand n after → AtSet plan scope scope_in report frames state last operand value → n < fact_count_of (counts_of plan)
    set_known n after value well number at =
        let few = few_facts plan well in
        let known = at.known in
        let read = number at.fact at.rest (omega (arith, few, known)) at.is in
        omega (arith, known, read.0)

    pub set_read : (n : ℕ) (after : List ℕ) (value : Bool) (next : State) → IsWell plan → IsNumber operand n after → next ≡ with_truth state n value → AtSet plan scope scope_in report frames state last operand value → LeavesFrom plan scope report after frames next last
    set_read n after value next well number is at =
        let few = few_facts plan well in
        let known = at.known in
        let read = number at.fact at.rest (omega (arith, few, known)) at.is in
        let same : with_truth state at.fact value ≡ next = ap (λ (m : ℕ). with_truth state m value) (sym read.0) ∙ sym is in
        subst (λ (code : List ℕ). LeavesFrom plan scope report code frames next last) (sym read.1) (subst (λ (s : State). LeavesFrom plan scope report at.rest frames s last) same at.on)

    -- ---- a choice

    module _ (at : AtIf plan scope scope_in report frames state last operand) where
      pub if_begins : BeginsPiece operand
      if_begins = record { piece = at.choice; rest = at.rest; short = at.choice_is.short; is = at.is }

      module _ (choice after : List ℕ) (read : IsPiece operand choice after) where
        halves : (choice ≡ at.choice) × (after ≡ at.rest)
        halves = read at.choice at.rest at.choice_is.short at.is

        choice_is : IsChoiceCode plan scope at.guard at.then_body at.else_body choice
        choice_is = subst (λ (code : List ℕ). IsChoiceCode plan scope at.guard at.then_body at.else_body code) (sym halves.0) at.choice_is

        pub choice_read : IsSomeChoiceCode plan choice
        choice_read = record { scope = scope; guard = at.guard; then_body = at.then_body; else_body = at.else_body; is = choice_is }

        module _ (branch : List ℕ)
            (found : (scope' : BodyScope) (guard : Cond) (then_body : Body) (else_body : Option Body) → IsChoiceCode plan scope' guard then_body else_body choice → branch ≡ code_of_body (taken (value_of plan guard state report) then_body else_body)) where
          branch_is : branch ≡ code_of_body (taken (value_of plan at.guard state report) at.then_body at.else_body)
          branch_is = found scope at.guard at.then_body at.else_body choice_is

          pub branch_short : length branch + length after + 4 ≤ length operand
          branch_short = omega (arith, ap length branch_is, taken_short plan scope at.guard at.then_body at.else_body at.choice at.choice_is (value_of plan at.guard state report), ap length halves.1, ap length at.is, length-append (with_length at.choice) at.rest)

          pub if_read : (outer : Frame) → outer.items.now ≡ after → LeavesFrom plan scope report branch (outer ∷ frames) state last
          if_read outer is = at.on outer branch (is ∙ halves.1) branch_is
