-- The characters of a name, a word or a number, and the number that stands at a place.
use Rattle.std.specs.Prelude.{ℕ, Bool, ◌==◌, List}
use Rattle.std.specs.List.{list_any}
use Rattle.ssi_lexer.specs.Lexemes.{characters_at, value_of_digits}
use Rattle.ssi_terms.specs.declared.tree.Spot.{Spot}

-- the characters of a name, a word or a number
abbrev pub characters : List ℕ → Spot → List ℕ
characters text spot = characters_at text spot.start spot.len

-- the number that stands at a place
abbrev pub number : List ℕ → Spot → ℕ
number text spot = value_of_digits (characters text spot)

-- whether a number is one of these
abbrev pub is_number_among : ℕ → List ℕ → Bool
is_number_among n numbers = list_any (λ m. n == m) numbers
