-- The byte of some bits, made from the highest down.
use Rattle.std.proofs.Common.{◌≡◌, ℕ, zero, suc, ◌+◌, ◌*◌, ◌^◌, ◌<◌, Bool, true, false, List, [], ◌∷◌, length, drop, get_or, map, Option, Some, None, refl, ap, sym, ◌∙◌, arith}
use Rattle.std.proofs.Math.Nat.{pow-suc}
use Rattle.std.specs.Prelude.{if◌then◌else◌, option_and_then, slice_get}
use Rattle.std.proofs.lemmas.List.{drop_more, drop_all, length-map}
use Rattle.ssi_identities.specs.declared.rule.Cond.{Cond}
use Rattle.ssi_identities.specs.DataSets.{Plan, ModulePlan}
use Rattle.ssi_identities.specs.States.{State}
use Rattle.ssi_image.specs.Places.{output_of}
use Rattle.ssi_identities.specs.Values.{byte_of}
use Rattle.ssi_cycle.specs.Outputs.{output_bit}
use Rattle.ssi_cycle.proofs.Restricting.{where_given}

-- the bits from one on
abbrev pub byte_from : Plan → State → ModulePlan → ℕ → ℕ
byte_from plan state row bit = byte_of (drop bit (map (output_bit plan state) row.outputs))

bit_at : (plan : Plan) (state : State) (outputs : List (Option Cond)) (bit : ℕ) → get_or (map (output_bit plan state) outputs) bit false ≡ output_bit plan state (get_or outputs bit None)
bit_at plan state [] bit = refl
bit_at plan state (output ∷ outputs) zero = refl
bit_at plan state (output ∷ outputs) (suc bit) = bit_at plan state outputs bit

power : (place : ℕ) → 2 ^ (place + 1) ≡ 2 ^ place * 2
power place =
    let one : place + 1 ≡ suc place = omega arith in
    ap (λ n. 2 ^ n) one ∙ pow-suc 2 place

-- a byte with one bit more is below twice as much
pub next_within : (place byte value : ℕ) (set : Bool) → value ≡ (if set then 1 else 0) → byte < 2 ^ place → 2 * byte + value < 2 ^ (place + 1)
next_within place byte value true is within = omega (arith, is, within, power place)
next_within place byte value false is within = omega (arith, is, within, power place)

module _ (plan : Plan) (number : ℕ) (row : ModulePlan) (there : slice_get plan.modules number ≡ Some row) (eight : length row.outputs ≡ 8) (state : State) where
  -- the condition of a bit, if it has one
  output_is : (bit : ℕ) → output_of plan number bit ≡ get_or row.outputs bit None
  output_is bit = ap (option_and_then (λ (row : ModulePlan). option_and_then (λ output. output) (slice_get row.outputs bit))) there ∙ where_given row.outputs bit

  -- one bit more, below the others
  pub bit_next : (bit value byte : ℕ) (set : Bool) → bit < 8 → set ≡ output_bit plan state (output_of plan number bit) → value ≡ (if set then 1 else 0) → byte ≡ byte_from plan state row (bit + 1)
      → 2 * byte + value ≡ byte_from plan state row bit
  bit_next bit value byte set within is value_is rest =
      let bits = map (output_bit plan state) row.outputs in
      let here : set ≡ get_or bits bit false = is ∙ ap (output_bit plan state) (output_is bit) ∙ sym (bit_at plan state row.outputs bit) in
      let more = drop_more bits bit false (rw (length-map row.outputs (output_bit plan state), eight) within) in
      rw (more, ← here, ← rest, ← value_is) (omega arith)

  -- no bit yet
  pub no_bit : byte_from plan state row 8 ≡ 0
  no_bit = rw (drop_all 8 (map (output_bit plan state) row.outputs) (rw (length-map row.outputs (output_bit plan state), eight) (omega arith))) refl
