-- One member of a shelf that is seen as the states of its members.
use Rattle.std.proofs.Common.{◌≡◌, ℕ, ◌+◌, ◌/◌, ◌%◌, ◌<◌, List, length, map, set, get_or, ◌∙◌, ap, sym, arith}
use Rattle.std.proofs.lemmas.List.{map-set, get_or-map}
use Rattle.ssi_trackside.specs.Module.{ModuleState, fresh}
use Rattle.ssi_trackside.specs.Shelf.{IsShelf, module_at, place_of}
use Rattle.ssi_trackside.specs.Kinds.{points_kind}

-- the state of the member that is read from a place
pub read_at : {X : Type 0} (state : X → ModuleState) (xs : List X) (i : ℕ) (read : X)
    → i < length xs → read ≡ get_or xs i read → state read ≡ module_at (map state xs) i
read_at state xs i read within is_read =
    ap state is_read ∙ sym (get_or-map state xs i read (fresh points_kind) within)

-- a member is replaced by one whose state is a change of its own: so is the list of states
pub changed_at : {X : Type 0} (state : X → ModuleState) (change : ModuleState → ModuleState) (xs : List X) (i : ℕ) (old new : X)
    → i < length xs → old ≡ get_or xs i old → state new ≡ change (state old)
    → map state (set xs i new) ≡ set (map state xs) i (change (module_at (map state xs) i))
changed_at state change xs i old new within is_read changed =
    map-set state xs i new
    ∙ ap (λ s. set (map state xs) i s) (changed ∙ ap change (read_at state xs i old within is_read))

-- a full and fresh shelf has at each place a fresh module of the kind that it is for
pub fresh_at : (states : List ModuleState) → IsShelf states
    → (place : ℕ) → place < 189 → module_at states place ≡ fresh (place % 3)
fresh_at states shelf place within =
    let place_is : place_of (place / 3 + 1) (place % 3) ≡ place = omega arith in
    ap (λ p. module_at states p) (sym place_is)
    ∙ shelf.each (place / 3 + 1) (place % 3) (omega arith) (omega arith) (omega arith)
