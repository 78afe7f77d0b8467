-- The faults of occurrences: one at most for each, judged in written order.
use Rattle.std.specs.Prelude.{ℕ, Bool, if◌then◌else◌, List, [], ◌∷◌, ◌++◌}
use Rattle.ssi_terms.specs.declared.tree.Spot.{Spot}
use Rattle.ssi_names.specs.declared.fault.Fault.{Fault}

-- the fault of an occurrence: the first code of its line whose test applies
abbrev pub at : Spot → List (Bool × ℕ) → List Fault
at spot [] = []
at spot (code ∷ codes) = if code.0 then record { code = code.1; spot = spot } ∷ [] else at spot codes

-- the faults of entries in written order, each judged after those before it
abbrev pub in_order : {X : Type 0} → (List X → X → List Fault) → List X → List X → List Fault
in_order judge earlier [] = []
in_order judge earlier (x ∷ xs) = judge earlier x ++ in_order judge (earlier ++ x ∷ []) xs

-- the faults of several parts, one part after another
abbrev pub one_by_one : List (List Fault) → List Fault
one_by_one [] = []
one_by_one (faults ∷ others) = faults ++ one_by_one others
