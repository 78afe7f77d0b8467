-- The names of identities.
use Rattle.std.specs.Prelude.{◌≡◌, ℕ, ◌≤◌, ◌==◌, nat_le, Bool, true, ◌&&◌, ◌||◌, codes, List, length, take, All}
use Rattle.ssi_identities.specs.declared.fact.Kind.{Kind}
use Rattle.ssi_identities.specs.declared.fact.Kind.TheVariants.{Points, Signal, Track, Route, Subroute, Flag, Request}
use Rattle.ssi_identities.specs.Limits.{most_characters}

-- the letter with which the names of a kind begin
abbrev pub letter_of : Kind → List ℕ
letter_of Points = codes "P"
letter_of Signal = codes "S"
letter_of Track = codes "T"
letter_of Route = codes "R"
letter_of Subroute = codes "U"
letter_of Flag = codes "L"
letter_of Request = codes "Q"

-- a letter from A to Z, a digit or a dash
abbrev pub is_name_character : ℕ → Bool
is_name_character c = nat_le 65 c && nat_le c 90 || (nat_le 48 c && nat_le c 57 || c == 45)

-- the name of an identity of the kind: letters, digits and dashes, two at least, of which the first is the kind's letter
pub record IsNameOf (kind : Kind) (name : List ℕ) : Type 0 where
  pub begins : take 1 name ≡ letter_of kind
  pub characters : All (λ c. is_name_character c ≡ true) name
  pub long : 2 ≤ length name
  pub short : length name ≤ most_characters
