-- The requests that wait, and the one that is taken.
use Rattle.std.specs.Prelude.{ℕ, Bool, nat_le, if◌then◌else◌, List, [], ◌∷◌, ◌++◌, length, slice_get, Option, Some, None, option_and_then}
use Rattle.ssi_identities.specs.declared.data_set.RequestRow.{RequestRow}
use Rattle.ssi_identities.specs.DataSets.{Plan}
use Rattle.ssi_cycle.specs.Deeds.{Deed}
use Rattle.ssi_cycle.specs.Deeds.Deed.{Acts}

-- 64 requests wait at most
abbrev pub is_full : List ℕ → Bool
is_full waiting = nat_le 64 (length waiting)

-- a request is put behind those that wait; where 64 do, nothing changes
abbrev pub with_request : List ℕ → ℕ → List ℕ
with_request waiting request = if is_full waiting then waiting else waiting ++ request ∷ []

-- the panel and the number of the request that is taken: the oldest, where one waits, of panel 0
abbrev pub taken_of : List ℕ → Option (ℕ × ℕ)
taken_of [] = None
taken_of (request ∷ waiting) = Some (0, request)

-- the body of a request acts; there is no report, and none has influence on it
abbrev pub deeds_of_row : Option RequestRow → List Deed
deeds_of_row None = []
deeds_of_row (Some row) = Acts row.body 0 ∷ []

-- the request that is taken acts
abbrev pub deeds_of_request : Plan → Option (ℕ × ℕ) → List Deed
deeds_of_request plan taken = deeds_of_row (option_and_then (λ (taken : ℕ × ℕ). slice_get plan.requests taken.1) taken)
