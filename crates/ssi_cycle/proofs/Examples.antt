-- What the conditions and bodies of the layout of one track do.
use Rattle.std.proofs.Common.{◌≡◌, refl, ap, ◌∙◌, ℕ, Bool, true, false, not, ◌&&◌, List, [], ◌∷◌, ◌++◌, map, Some, None}
use Rattle.std.proofs.Math.Path.{fun_ext}
use Rattle.ssi_identities.specs.States.{State, truth_of}
use Rattle.ssi_identities.specs.Values.{bit_of, scene_of, value_of, byte_of}
use Rattle.ssi_identities.specs.Steps.{Act, Valuation, act_of, choice_act, command_act, effect_of, guards_of, in_turn, no_act}
use Rattle.ssi_identities.proofs.Acts.{act_of_body, act_of_do, act_of_if, left_by}
use Rattle.ssi_identities.proofs.Values.{all_hold, bit_holds, fact_holds, lit_holds}
use Rattle.ssi_identities.specs.Allowed.{body_of_statement}
use Rattle.ssi_cycle.specs.Outputs.{output_byte}
use Rattle.ssi_cycle.specs.Worlds.{World, Event, after_event, deeds_of_event}
use Rattle.ssi_cycle.specs.Worlds.Event.{Minor}
use Rattle.ssi_cycle.specs.Moments.{Change, changes_of_deeds, changes_of_events}
use Rattle.ssi_cycle.specs.Moments.Change.{Stepped}
use Rattle.ssi_cycle.specs.Worked.{bit_0_high, gives_t1, in_slot, l1_set_and_t1_clear, module_of_t1, notes_t1, one_track, reads_t1, set_l1, set_l2, t1_becomes, t1_clear}

-- the byte that goes out, by whether L2 is set and whether T1 is clear
abbrev pub byte_by : Bool → Bool → ℕ
byte_by l2 clear = byte_of (l2 ∷ false ∷ clear ∷ false ∷ false ∷ false ∷ false ∷ false ∷ [])

pub byte_in : (state : State) → output_byte one_track state module_of_t1 ≡ byte_by (truth_of state 2 && true) (not (truth_of state 0) && true)
byte_in state =
    let scene = scene_of one_track state 0 in
    ap (λ l2. byte_by l2 (value_of one_track t1_clear state 0)) (fact_holds scene 2 true) ∙ ap (byte_by (truth_of state 2 && true)) (fact_holds scene 0 false)

-- the input, by its guard
abbrev pub reads_act : (State → Bool) → Act
reads_act guard = in_turn (choice_act guard (in_turn (command_act (t1_becomes false) ∷ [])) (in_turn (command_act (t1_becomes true) ∷ [])) ∷ [])

reads_by : (holds : Valuation) → act_of holds reads_t1 ≡ reads_act (holds bit_0_high)
reads_by holds = simp (act_of_body, act_of_do, act_of_if)

bit_0_holds : (state : State) (byte : ℕ) → value_of one_track bit_0_high state byte ≡ (bit_of byte 0 && true)
bit_0_holds state byte = simp (all_hold, bit_holds) refl

-- what it does
pub reads_in : (byte : ℕ) → act_of (guards_of one_track byte) reads_t1 ≡ reads_act (λ state. bit_of byte 0 && true)
reads_in byte = reads_by (guards_of one_track byte) ∙ ap reads_act (fun_ext (λ state. bit_0_holds state byte))

-- the state that it leaves
pub reads : (byte : ℕ) (state : State) → effect_of one_track reads_t1 state byte ≡ left_by (reads_act (λ state. bit_of byte 0 && true)) state
reads byte state = ap (λ act. left_by act state) (reads_in byte)

-- a choice of one command and no else
abbrev pub may_act : (State → Bool) → Act → Act
may_act guard act = in_turn (choice_act guard (in_turn (act ∷ [])) no_act ∷ [])

notes_by : (holds : Valuation) → act_of holds (body_of_statement notes_t1) ≡ may_act (holds t1_clear) (command_act set_l1)
notes_by holds = simp (act_of_body, act_of_do, act_of_if)

-- what the statement does
pub notes_in : act_of (guards_of one_track 0) (body_of_statement notes_t1) ≡ may_act (λ state. not (truth_of state 0) && true) (command_act set_l1)
notes_in = notes_by (guards_of one_track 0) ∙ ap (λ guard. may_act guard (command_act set_l1)) (fun_ext (λ state. fact_holds (scene_of one_track state 0) 0 false))

-- the state that it leaves
pub notes : (state : State) → effect_of one_track (body_of_statement notes_t1) state 0 ≡ left_by (may_act (λ state. not (truth_of state 0) && true) (command_act set_l1)) state
notes state = ap (λ act. left_by act state) notes_in

gives_by : (holds : Valuation) → act_of holds gives_t1 ≡ may_act (holds l1_set_and_t1_clear) (command_act set_l2)
gives_by holds = simp (act_of_body, act_of_do, act_of_if)

both_hold : (state : State) → value_of one_track l1_set_and_t1_clear state 0 ≡ (truth_of state 1 && (not (truth_of state 0) && true))
both_hold state = simp (all_hold, lit_holds) refl

-- the state that the request leaves
pub gives : (state : State) → effect_of one_track gives_t1 state 0 ≡ left_by (may_act (λ state. truth_of state 1 && (not (truth_of state 0) && true)) (command_act set_l2)) state
gives state = ap (λ act. left_by act state) (gives_by (guards_of one_track 0) ∙ ap (λ guard. may_act guard (command_act set_l2)) (fun_ext both_hold))

-- the changes of an event, and then those of the events after it
pub changes_then : (world next : World) (event : Event) (events : List Event) (now : List Change) → changes_of_deeds one_track world.state (deeds_of_event one_track world event) ≡ now → after_event one_track world event ≡ next
    → changes_of_events one_track world (event ∷ events) ≡ now ++ changes_of_events one_track next events
changes_then world next event events now is leaves =
    ap (λ changes. changes ++ changes_of_events one_track (after_event one_track world event) events) is ∙ ap (λ world. now ++ changes_of_events one_track world events) leaves

-- those of slot 0 are the statement's
pub changes_of_notes : (state : State) → changes_of_deeds one_track state (deeds_of_event one_track (in_slot 0 state []) (Minor None)) ≡ map Stepped ((may_act (λ state. not (truth_of state 0) && true) (command_act set_l1)).steps 0 state) ++ []
changes_of_notes state = ap (λ act. map Stepped (act.steps 0 state) ++ []) notes_in

-- those of a report in slot 5 are the input's
pub changes_of_reads : (state : State) → changes_of_deeds one_track state (deeds_of_event one_track (in_slot 5 state []) (Minor (Some (69 ∷ 1 ∷ 254 ∷ 186 ∷ [])))) ≡ map Stepped ((reads_act (λ state. bit_of 1 0 && true)).steps 0 state) ++ []
changes_of_reads state = ap (λ act. map Stepped (act.steps 0 state) ++ []) (reads_in 1)
