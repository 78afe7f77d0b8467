-- The four bytes that pass between the interlocking and a trackside module.
use Rattle.std.specs.Prelude.{◌≡◌, ◌≢◌, ℕ, ◌+◌, ◌-◌, ◌<◌, ◌≤◌, nat_lt, Bool, ◌&&◌, List, [], ◌∷◌, length, Option, Some, None, if◌then◌else◌, slice_index, slice_set}
use Rattle.std.specs.Str.{bytes_eq}

-- the addresses that a module can have
abbrev pub IsAddress : ℕ → Type 0
IsAddress address = (1 ≤ address) × (address ≤ 63)

-- the telegram that sends a command byte to the module at an address
abbrev pub command_telegram_of : ℕ → ℕ → List ℕ
command_telegram_of address value =
    (128 + address) ∷ value ∷ (255 - value) ∷ (127 - address) ∷ []

-- the telegram by which the module at an address reports a byte
abbrev pub report_telegram_of : ℕ → ℕ → List ℕ
report_telegram_of address value =
    (64 + address) ∷ value ∷ (255 - value) ∷ (191 - address) ∷ []

-- whether a telegram is an address's report of a value, which is a byte
abbrev pub is_report_of : ℕ → List ℕ → ℕ → Bool
is_report_of address telegram value = nat_lt value 256 && bytes_eq telegram (report_telegram_of address value)

-- the byte that a telegram reports for an address: there is one only where the whole telegram is
-- that address's report of it
abbrev pub reported_byte : ℕ → List ℕ → Option ℕ
reported_byte address telegram =
    let value = slice_index telegram 1 in
    if is_report_of address telegram value then Some value else None

-- a telegram that arrives with exactly one of its bytes damaged
pub record IsDamaged (sent arrived : List ℕ) : Type 0 where
  pub place : ℕ
  pub byte : ℕ
  pub within : place < length sent
  pub other : byte ≢ slice_index sent place
  pub damaged : arrived ≡ slice_set sent place byte
