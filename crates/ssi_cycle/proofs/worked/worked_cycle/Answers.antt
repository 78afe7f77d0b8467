use Rattle.std.proofs.Common.{true, false, [], ◌∷◌, ◌++◌, Some, None, replicate, ap, ◌∙◌}
use Rattle.ssi_identities.specs.Steps.{effect_of}
use Rattle.ssi_cycle.specs.Worked.{gives_t1, in_slot, one_track, one_track_is}
use Rattle.ssi_cycle.specs.Worlds.{after_events}
use Rattle.ssi_cycle.specs.Worlds.Event.{Put, Minor}
use Rattle.ssi_cycle.proofs.Examples.{gives, notes, reads}
use Rattle.ssi_cycle.proofs.worked.worked_cycle.Goals as goal

pub returns-clause-clear : goal.returns-clause-clear
returns-clause-clear c = λ l1 l2. ap (λ state. in_slot 6 state []) (reads 1 (one_track_is true l1 l2))

pub returns-clause-occupied : goal.returns-clause-occupied
returns-clause-occupied c = λ l1 l2. ap (λ state. in_slot 6 state []) (reads 254 (one_track_is false l1 l2))

pub returns-clause-statement : goal.returns-clause-statement
returns-clause-statement c = λ l2. ap (λ state. in_slot 1 state []) (notes (one_track_is false false l2))

pub returns-clause-guard_fails : goal.returns-clause-guard_fails
returns-clause-guard_fails c = λ l2. ap (λ state. in_slot 1 state []) (notes (one_track_is true false l2))

pub returns-clause-one_request : goal.returns-clause-one_request
returns-clause-one_request c = ap (λ state. in_slot 7 state (0 ∷ [])) (gives (one_track_is false true false))

pub returns-clause-refused : goal.returns-clause-refused
returns-clause-refused c = λ l2. ap (λ state. in_slot 7 state []) (gives (one_track_is true true l2))

pub returns-clause-report_first : goal.returns-clause-report_first
returns-clause-report_first c =
    ap (λ state. in_slot 6 (effect_of one_track gives_t1 state 0) []) (reads 1 (one_track_is true true false)) ∙ ap (λ state. in_slot 6 state []) (gives (one_track_is false true false))

pub returns-clause-statement_first : goal.returns-clause-statement_first
returns-clause-statement_first c =
    ap (λ state. in_slot 1 (effect_of one_track gives_t1 state 0) []) (notes (one_track_is false false false)) ∙ ap (λ state. in_slot 1 state []) (gives (one_track_is false true false))

pub returns-clause-history : goal.returns-clause-history
returns-clause-history c =
    let last = replicate 3 (Minor None) ++ Minor (Some (69 ∷ 1 ∷ 255 ∷ 186 ∷ [])) ∷ [] in
    let served = Put 0 ∷ Minor None ∷ last in
    let later = replicate 59 (Minor None) ++ served in
    ap (λ state. after_events one_track (in_slot 1 state []) (replicate 4 (Minor None) ++ Minor (Some (69 ∷ 1 ∷ 254 ∷ 186 ∷ [])) ∷ later)) (notes (one_track_is true false false))
    ∙ ap (λ state. after_events one_track (in_slot 6 state []) later) (reads 1 (one_track_is true false false))
    ∙ ap (λ state. after_events one_track (in_slot 1 state []) served) (notes (one_track_is false false false))
    ∙ ap (λ state. after_events one_track (in_slot 2 state []) last) (gives (one_track_is false true false))
