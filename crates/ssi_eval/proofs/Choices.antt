-- The parts of a choice.
use Rattle.std.proofs.Common.{◌≡◌, ◌≢◌, ℕ, ◌≤◌, Bool, true, false, List, [], ◌∷◌, ◌++◌, ◌+◌, length, refl, Option, Some, None, option_map, sym, ap, ◌∙◌, length-append, arith}
use Rattle.std.specs.Prelude.{◌==◌}
use Rattle.std.proofs.lemmas.List.{append-nil}
use Rattle.ssi_identities.specs.declared.rule.Cond.{Cond}
use Rattle.ssi_identities.specs.declared.rule.Body.{Body}
use Rattle.ssi_identities.specs.Allowed.{BodyScope}
use Rattle.ssi_identities.specs.Codes.{IsShort, body_code, part_code, code_of_body, code_of_cond, else_code, with_length}
use Rattle.ssi_identities.specs.DataSets.{Plan}
use Rattle.ssi_identities.specs.Steps.{body_of}
use Rattle.ssi_identities.proofs.Bodies.{body_is}
use Rattle.ssi_eval.specs.BodyCodes.{IsChoiceCode, taken}
use Rattle.ssi_eval.specs.CondCodes.{IsCondCode}
use Rattle.ssi_eval.specs.Pieces.{BeginsPiece}
use Rattle.ssi_eval.proofs.ReadItems.{IsPiece}

-- no item has no code
pub code_of_none : code_of_body (body_of []) ≡ []
code_of_none = body_is (List ℕ) (List ℕ) part_code body_code []

pub is_nil : (b : Bool) (n : ℕ) → b ≡ (n == 0) → b ≡ true → n ≡ 0
is_nil b n e t = grind arith

pub is_some_left : (b : Bool) (n : ℕ) → b ≡ (n == 0) → b ≡ false → n ≢ 0
is_some_left b n e t = λ z. grind arith

nil_of : (xs : List ℕ) → length xs ≡ 0 → xs ≡ []
nil_of [] none = refl
nil_of (x ∷ xs) none = absurd (omega (arith, none))

-- ---- the branch that is taken

taken_then : (value : Bool) (then_body : Body) (else_body : Option Body) → value ≡ true → taken value then_body else_body ≡ then_body
taken_then true then_body None is = refl
taken_then true then_body (Some other) is = refl
taken_then false then_body else_body is = absurd cc

taken_none : (value : Bool) (then_body : Body) (else_body : Option Body) → value ≡ false → length (else_code (option_map code_of_body else_body)) ≡ 0 → taken value then_body else_body ≡ body_of []
taken_none true then_body else_body is none = absurd cc
taken_none false then_body None is none = refl
taken_none false then_body (Some other) is none = absurd (omega (arith, none))

taken_else : (value : Bool) (then_body other : Body) → value ≡ false → taken value then_body (Some other) ≡ other
taken_else true then_body other is = absurd cc
taken_else false then_body other is = refl

taken_length : (value : Bool) (then_body : Body) (else_body : Option Body) → length (code_of_body (taken value then_body else_body)) ≤ length (code_of_body then_body) + length (else_code (option_map code_of_body else_body))
taken_length true then_body None = omega arith
taken_length true then_body (Some other) = omega arith
taken_length false then_body None = omega (arith, ap length code_of_none)
taken_length false then_body (Some other) = omega arith

some_else : (else_body : Option Body) → length (else_code (option_map code_of_body else_body)) ≢ 0 → (other : Body) × (else_body ≡ Some other)
some_else None some = absurd (some refl)
some_else (Some other) some = (other, refl)

module _ (plan : Plan) (scope : BodyScope) (guard : Cond) (then_body : Body) (else_body : Option Body) (choice : List ℕ) (is : IsChoiceCode plan scope guard then_body else_body choice) where
  -- no part is longer than the choice
  parts_length : length (code_of_cond guard) + length (code_of_body then_body) + length (else_code (option_map code_of_body else_body)) + 8 ≡ length choice
  parts_length =
      let other = else_code (option_map code_of_body else_body) in
      omega (arith, ap length is.is, length-append (with_length (code_of_cond guard)) (with_length (code_of_body then_body) ++ other), length-append (with_length (code_of_body then_body)) other)

  pub taken_short : (value : Bool) → length (code_of_body (taken value then_body else_body)) + 8 ≤ length choice
  taken_short value = omega (arith, parts_length, taken_length value then_body else_body)

  -- a choice begins with its guard
  pub begins_guard : BeginsPiece choice
  begins_guard = record { piece = code_of_cond guard; rest = with_length (code_of_body then_body) ++ else_code (option_map code_of_body else_body); short = is.guard_is.well.short; is = is.is }

  -- the guard, and behind it the branch with what follows
  module _ (guard_code branches : List ℕ) (read : IsPiece choice guard_code branches) where
    halves : (guard_code ≡ code_of_cond guard) × (branches ≡ with_length (code_of_body then_body) ++ else_code (option_map code_of_body else_body))
    halves = read (code_of_cond guard) (with_length (code_of_body then_body) ++ else_code (option_map code_of_body else_body)) is.guard_is.well.short is.is

    pub guard_read : IsCondCode plan scope.guards guard guard_code
    guard_read = record { scope_in = is.guard_is.scope_in; well = is.guard_is.well; is = halves.0 }

    pub begins_then : BeginsPiece branches
    begins_then = record { piece = code_of_body then_body; rest = else_code (option_map code_of_body else_body); short = let s = is.short in omega (arith, parts_length); is = halves.1 }

    module _ (then_code rest : List ℕ) (read_then : IsPiece branches then_code rest) (value : Bool) where
      then_halves : (then_code ≡ code_of_body then_body) × (rest ≡ else_code (option_map code_of_body else_body))
      then_halves = read_then (code_of_body then_body) (else_code (option_map code_of_body else_body)) (let s = is.short in omega (arith, parts_length)) halves.1

      -- the guard holds
      pub then_taken : value ≡ true → then_code ≡ code_of_body (taken value then_body else_body)
      then_taken holds = then_halves.0 ∙ ap code_of_body (sym (taken_then value then_body else_body holds))

      -- it doesn't, and there is no other branch
      pub none_taken : value ≡ false → length rest ≡ 0 → rest ≡ code_of_body (taken value then_body else_body)
      none_taken fails none =
          let no_code : length (else_code (option_map code_of_body else_body)) ≡ 0 = sym (ap length then_halves.1) ∙ none in
          nil_of rest none ∙ sym (ap code_of_body (taken_none value then_body else_body fails no_code) ∙ code_of_none)

      -- there is another branch
      other : length rest ≢ 0 → (body : Body) × (else_body ≡ Some body)
      other some = some_else else_body (λ none. some (ap length then_halves.1 ∙ none))

      other_is : (some : length rest ≢ 0) → rest ≡ with_length (code_of_body (other some).0) ++ []
      other_is some = then_halves.1 ∙ ap (λ (o : Option Body). else_code (option_map code_of_body o)) (other some).1 ∙ sym (append-nil (with_length (code_of_body (other some).0)))

      other_short : (some : length rest ≢ 0) → IsShort (code_of_body (other some).0)
      other_short some = let s = is.short in omega (arith, parts_length, ap length then_halves.1, ap length (other_is some), length-append (with_length (code_of_body (other some).0)) [])

      pub begins_else : length rest ≢ 0 → BeginsPiece rest
      begins_else some = record { piece = code_of_body (other some).0; rest = []; short = other_short some; is = other_is some }

      pub else_taken : (some : length rest ≢ 0) (else_branch end : List ℕ) → value ≡ false → IsPiece rest else_branch end → else_branch ≡ code_of_body (taken value then_body else_body)
      else_taken some else_branch end fails read_else =
          (read_else (code_of_body (other some).0) [] (other_short some) (other_is some)).0
          ∙ ap code_of_body (sym (ap (taken value then_body) (other some).1 ∙ taken_else value then_body (other some).0 fails))
