use Rattle.std.proofs.Common.{true, false, List, [], ◌∷◌, ◌++◌, Some, None, replicate, ap, ◌∙◌}
use Rattle.ssi_identities.specs.States.{State}
use Rattle.ssi_cycle.specs.Moments.{Change, states_around}
use Rattle.ssi_cycle.specs.Worked.{in_slot, one_track_is}
use Rattle.ssi_cycle.specs.Worlds.Event.{Minor}
use Rattle.ssi_cycle.proofs.Examples.{changes_of_notes, changes_of_reads, changes_then, notes, reads}
use Rattle.ssi_cycle.proofs.worked.worked_moments.Goals as goal

-- the start, and the states before and after each change
abbrev shown : List Change → List State
shown changes = one_track_is true false false ∷ states_around changes

pub returns : goal.returns
returns c =
    let start = one_track_is true false false in
    let clear = one_track_is false false false in
    let noted = one_track_is false true false in
    let report = Minor (Some (69 ∷ 1 ∷ 254 ∷ 186 ∷ [])) in
    let last = replicate 5 (Minor None) in
    ap shown (changes_then (in_slot 0 start []) (in_slot 1 start []) (Minor None) (replicate 4 (Minor None) ++ report ∷ replicate 64 (Minor None)) [] (changes_of_notes start) (ap (λ state. in_slot 1 state []) (notes start)))
    ∙ ap shown (changes_then (in_slot 5 start []) (in_slot 6 clear []) report (replicate 64 (Minor None)) _ (changes_of_reads start) (ap (λ state. in_slot 6 state []) (reads 1 start)))
    ∙ ap (λ changes. start ∷ start ∷ clear ∷ states_around changes)
    (changes_then (in_slot 0 clear []) (in_slot 1 noted []) (Minor None) last _ (changes_of_notes clear) (ap (λ state. in_slot 1 state []) (notes clear)))
