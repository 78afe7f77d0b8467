-- The bits of a byte that is made of bits.
use Rattle.std.proofs.Common.{◌≡◌, refl, ap, sym, ◌∙◌, ℕ, zero, suc, ◌+◌, ◌*◌, ◌/◌, ◌%◌, ◌^◌, ◌<◌, ◌≤◌, ◌==◌, Bool, true, false, ◌&&◌, List, [], ◌∷◌, length, get_or, arith}
use Rattle.std.proofs.Math.Nat.{pow-suc, zero-div, div-div-eq-div-mul}
use Rattle.std.specs.Prelude.{if◌then◌else◌, nat_lt}
use Rattle.std.proofs.lemmas.Bool.Decides.{nat_tests}
use Rattle.std.proofs.lemmas.List.{get_or_past}
use Rattle.ssi_identities.specs.Values.{bit_of, byte_of}

-- the lowest bit, and half of the byte
lowest : (bit : Bool) (x : ℕ) → (((if bit then 1 else 0) + 2 * x) / 2 ^ 0 % 2 == 1) ≡ bit
lowest true x = let odd : (1 + 2 * x) / 1 % 2 ≡ 1 = omega arith in rw odd refl
lowest false x = let even : (0 + 2 * x) / 1 % 2 ≡ 0 = omega arith in rw even refl

half : (bit : Bool) (x : ℕ) → ((if bit then 1 else 0) + 2 * x) / 2 ≡ x
half true x = omega arith
half false x = omega arith

-- the bits from the next on are those of half the byte
next : (n x i : ℕ) → n / 2 ≡ x → n / 2 ^ suc i ≡ x / 2 ^ i
next n x i is =
    let twice : 2 ^ suc i ≡ 2 * 2 ^ i = omega (arith, pow-suc 2 i) in
    ap (λ m. n / m) twice ∙ sym (div-div-eq-div-mul n 2 (2 ^ i)) ∙ ap (λ m. m / 2 ^ i) is

-- no bit of 0 is 1
none : (i : ℕ) → (0 / 2 ^ i % 2 == 1) ≡ false
none i = rw (zero-div (2 ^ i)) refl

bit_in : (bits : List Bool) (i : ℕ) → (byte_of bits / 2 ^ i % 2 == 1) ≡ get_or bits i false
bit_in [] i = none i
bit_in (bit ∷ bits) zero = lowest bit (byte_of bits)
bit_in (bit ∷ bits) (suc i) = ap (λ n. n % 2 == 1) (next (byte_of (bit ∷ bits)) (byte_of bits) i (half bit (byte_of bits))) ∙ bit_in bits i

within : (below : Bool) (bits : List Bool) (i : ℕ) → length bits ≤ 8 → nat_lt i 8 ≡ below → (nat_lt i 8 && (byte_of bits / 2 ^ i % 2 == 1)) ≡ get_or bits i false
within true bits i few is = rw is (bit_in bits i)
within false bits i few is = let past : length bits ≤ i = grind (arith, nat_tests) in rw is (sym (get_or_past bits i false past))

-- a bit of the byte of eight bits at most is that bit
pub bit_of_byte : (bits : List Bool) (i : ℕ) → length bits ≤ 8 → bit_of (byte_of bits) i ≡ get_or bits i false
bit_of_byte bits i few = within (nat_lt i 8) bits i few refl

bounded : (bit : Bool) (x n : ℕ) → x < 2 ^ n → (if bit then 1 else 0) + 2 * x < 2 ^ suc n
bounded true x n few = omega (arith, pow-suc 2 n)
bounded false x n few = omega (arith, pow-suc 2 n)

-- so many bits make a number of so many bits
pub byte_small : (bits : List Bool) → byte_of bits < 2 ^ length bits
byte_small [] = omega arith
byte_small (bit ∷ bits) = bounded bit (byte_of bits) (length bits) (byte_small bits)
