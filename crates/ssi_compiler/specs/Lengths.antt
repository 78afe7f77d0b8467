-- Room for a length.
use Rattle.std.specs.Prelude.{ℕ, List, [], ◌∷◌}

-- four bytes in which a length will stand
abbrev pub no_length : List ℕ
no_length = 0 ∷ 0 ∷ 0 ∷ 0 ∷ []
