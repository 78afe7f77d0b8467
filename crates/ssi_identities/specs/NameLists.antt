-- The names of each kind, in the order of their first declaration.
use Rattle.std.specs.Prelude.{◌≡◌, ℕ, List, [], ◌∷◌, ◌++◌, length, position, slice_index_or, slice_set, replicate, Option, Some, None}
use Rattle.std.specs.Str.{bytes_eq}
use Rattle.ssi_identities.specs.declared.fact.Kind.{Kind}
use Rattle.ssi_identities.specs.declared.fact.Kind.TheVariants.{Points, Signal, Track, Route, Subroute, Flag, Request}
use Rattle.ssi_identities.specs.declared.names.Added.{Added}
use Rattle.ssi_identities.specs.declared.names.Added.TheVariants.{New, Old}

-- the place of a kind among the kinds
abbrev pub kind_number : Kind → ℕ
kind_number Points = 0
kind_number Signal = 1
kind_number Track = 2
kind_number Route = 3
kind_number Subroute = 4
kind_number Flag = 5
kind_number Request = 6

-- the number of a name: its place in the list of its kind
abbrev pub number_of : List (List ℕ) → List ℕ → Option ℕ
number_of names name = position (bytes_eq name) names

-- the names of a kind
abbrev pub names_of : List (List (List ℕ)) → Kind → List (List ℕ)
names_of lists kind = slice_index_or lists (kind_number kind) []

-- a new name is appended and takes the next number; an old one has its number, and nothing changes
abbrev pub IsAdded : List (List ℕ) → List (List ℕ) → List ℕ → Added → Type 0
IsAdded old new name (New number) = (number_of old name ≡ None) × (number ≡ length old) × (new ≡ old ++ name ∷ [])
IsAdded old new name (Old number) = (number_of old name ≡ Some number) × (new ≡ old)

-- the names of a kind in place of those that were there
abbrev pub with_names : List (List (List ℕ)) → Kind → List (List ℕ) → List (List (List ℕ))
with_names lists kind names = slice_set lists (kind_number kind) names

-- seven kinds, and no name of any
abbrev pub IsEmptyOfEach : List (List (List ℕ)) → Type 0
IsEmptyOfEach lists = lists ≡ replicate 7 []
