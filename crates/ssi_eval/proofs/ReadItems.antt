-- What the code has in hand when it has read an item.
use Rattle.std.proofs.Common.{◌≡◌, ℕ, ◌+◌, ◌<◌, ◌≤◌, ◌^◌, Bool, true, false, List, [], ◌∷◌, ◌++◌, length, refl, sym, ap, subst, ◌∙◌, length-append, arith}
use Rattle.std.specs.Int.{w16, to_be_bytes}
use mathlib.Core.Bool.{beq}
use Rattle.ssi_identities.specs.Allowed.{CondScope}
use Rattle.ssi_identities.specs.Codes.{IsShort, with_length}
use Rattle.ssi_identities.specs.States.{State, fact_total_of, truth_of}
use Rattle.ssi_identities.specs.Values.{Scene, bit_of, is_as_wanted}
use Rattle.ssi_eval.specs.declared.frame.Frame.{Frame}
use Rattle.ssi_identities.specs.declared.opcode.CondOp.{CondOp}
use Rattle.ssi_eval.specs.Frames.{Gives, LooksAt}
use Rattle.ssi_eval.specs.Items.{CanRead}
use Rattle.ssi_identities.specs.Opcodes.{cond_byte_of}
use Rattle.ssi_eval.specs.Pieces.{BeginsItem, BeginsPiece}
use Rattle.ssi_eval.proofs.ItemFronts.{At, AtFact, AtBit, AtFree, AtGroup, at_kind, front}

-- a number and what follows it were read
abbrev pub IsNumber : List ℕ → ℕ → List ℕ → Type 0
IsNumber bytes number after = (n : ℕ) (rest : List ℕ) → n < 2 ^ 16 → bytes ≡ to_be_bytes w16 n ++ rest → (number ≡ n) × (after ≡ rest)

-- a piece and what follows it were read
abbrev pub IsPiece : List ℕ → List ℕ → List ℕ → Type 0
IsPiece bytes found after = (piece rest : List ℕ) → IsShort piece → bytes ≡ with_length piece ++ rest → (found ≡ piece) × (after ≡ rest)

-- a piece takes its length and its bytes
pub piece_length : (bytes found after : List ℕ) → BeginsPiece bytes → IsPiece bytes found after → length found + length after + 4 ≡ length bytes
piece_length bytes found after begins read =
    let same = read begins.piece begins.rest begins.short begins.is in
    omega (arith, ap length begins.is, ap length same.0, ap length same.1, length-append (with_length begins.piece) begins.rest)

-- a first byte stands there
pub begins : (state : State) (report : ℕ) (level : Frame) → CanRead state report level → BeginsItem level.items.now
begins state report level can =
    let item = front can.scene can.scope level can.frames can.result can.some can.gives in
    record { op = item.kind; rest = item.operand; is = item.is }

-- an item of the kind that was read stands there
pub kind_at : (scene : Scene) (scope : CondScope) (level : Frame) (frames : List Frame) (result : Bool) (read kind : CondOp) (operand : List ℕ) → level.items.now ≡ cond_byte_of read ∷ operand → read ≡ kind → 0 < length level.items.now → Gives scene scope (level ∷ frames) true result → At scene scope level frames result operand kind
kind_at scene scope level frames result read kind operand is same more gives =
    at_kind scene scope level frames result kind operand (is ∙ ap (λ (k : CondOp). cond_byte_of k ∷ operand) same) more gives

-- the code and the rules say alike that a value is the wanted one
as_wanted : (value wanted : Bool) → is_as_wanted value wanted ≡ beq value wanted
as_wanted true true = refl
as_wanted true false = refl
as_wanted false true = refl
as_wanted false false = refl

module _ (scene : Scene) (scope : CondScope) (state : State) (report : ℕ) (looks : LooksAt scene scope state report)
    (level next : Frame) (frames : List Frame) (result : Bool) (operand : List ℕ) (same_others : next.others.now ≡ level.others.now) where
  -- ---- a test of a fact

  pub fact_known : (n : ℕ) (after : List ℕ) (wanted : Bool) → IsNumber operand n after → AtFact scene scope level frames result operand wanted → n < fact_total_of state
  fact_known n after wanted number at =
      let few = looks.few in
      let facts = looks.facts in
      let known = at.known in
      let read = number at.fact at.rest (omega arith) at.is in
      omega (arith, read.0)

  pub fact_read : (n : ℕ) (got wanted : Bool) → IsNumber operand n next.items.now → got ≡ truth_of state n → AtFact scene scope level frames result operand wanted → Gives scene scope (next ∷ frames) (beq got wanted) result
  fact_read n got wanted number is at =
      let few = looks.few in
      let facts = looks.facts in
      let known = at.known in
      let read = number at.fact at.rest (omega arith) at.is in
      let truth : truth_of scene.state at.fact ≡ got = ap (λ (s : State). truth_of s at.fact) looks.state_is ∙ ap (truth_of state) (sym read.0) ∙ sym is in
      subst (λ (v : Bool). Gives scene scope (next ∷ frames) v result) (ap (λ (v : Bool). is_as_wanted v wanted) truth ∙ as_wanted got wanted) (at.gives next read.1 same_others)

  -- ---- a test of a bit

  pub bit_known : (bit : ℕ) (after : List ℕ) (wanted : Bool) → operand ≡ bit ∷ after → AtBit scene scope level frames result operand wanted → bit < 8
  bit_known bit after wanted is at =
      let most = looks.bits in
      let known = at.known in
      let there = at.is in
      let same : bit ≡ at.bit = cc in
      omega arith

  pub bit_read : (bit : ℕ) (got wanted : Bool) → operand ≡ bit ∷ next.items.now → got ≡ bit_of report bit → AtBit scene scope level frames result operand wanted → Gives scene scope (next ∷ frames) (beq got wanted) result
  bit_read bit got wanted is value at =
      let there = at.is in
      let same : at.bit ≡ bit = cc in
      let rest : next.items.now ≡ at.rest = cc in
      let truth : scene.bits at.bit ≡ got = ap (λ (bits : ℕ → Bool). bits at.bit) looks.bits_are ∙ ap (bit_of report) same ∙ sym value in
      subst (λ (v : Bool). Gives scene scope (next ∷ frames) v result) (ap (λ (v : Bool). is_as_wanted v wanted) truth ∙ as_wanted got wanted) (at.gives next rest same_others)

  -- ---- a question about points

  pub free_read : (n : ℕ) (lie : Bool) → IsNumber operand n next.items.now → AtFree scene scope level frames result operand lie → (scope.may_ask n lie ≡ true) × Gives scene scope (next ∷ frames) (scene.free n lie) result
  free_read n lie number at =
      let read = number at.points at.rest (looks.points at.points lie at.asked) at.is in (
        ap (λ (m : ℕ). scope.may_ask m lie) read.0 ∙ at.asked,
        subst (λ (m : ℕ). Gives scene scope (next ∷ frames) (scene.free m lie) result) (sym read.0) (at.gives next read.1 same_others),
      )

  -- ---- a group

  pub group_read : (found : List ℕ) → IsPiece operand found next.items.now → AtGroup scene scope level frames result operand
      → (length frames < 8) × ((group : Frame) → group.items.now ≡ [] → group.others.now ≡ found → Gives scene scope (group ∷ next ∷ frames) false result)
  group_read found piece at =
      let read = piece at.alternatives at.rest at.short at.is in (
        at.room,
        λ group none alternatives. at.gives next group read.1 same_others none (alternatives ∙ read.0),
      )

-- ---- how long the operands are

module _ (scene : Scene) (scope : CondScope) (level : Frame) (frames : List Frame) (result : Bool) (operand : List ℕ) where
  pub fact_long : (wanted : Bool) → AtFact scene scope level frames result operand wanted → 2 ≤ length operand
  fact_long wanted at = omega (arith, ap length at.is)

  pub bit_long : (wanted : Bool) → AtBit scene scope level frames result operand wanted → 0 < length operand
  bit_long wanted at = omega (arith, ap length at.is)

  pub free_long : (lie : Bool) → AtFree scene scope level frames result operand lie → 2 ≤ length operand
  free_long lie at = omega (arith, ap length at.is)

  pub group_begins : AtGroup scene scope level frames result operand → BeginsPiece operand
  group_begins at = record { piece = at.alternatives; rest = at.rest; short = at.short; is = at.is }
