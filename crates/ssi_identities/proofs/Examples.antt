-- What the worked conditions say in any scene, and what the worked bodies do, as acts.
use Rattle.std.proofs.Common.{◌≡◌, refl, ap, ◌∙◌, ℕ, Bool, true, false, not, ◌&&◌, ◌||◌, [], ◌∷◌}
use Rattle.std.proofs.Math.Path.{fun_ext}
use Rattle.ssi_identities.specs.States.{State, truth_of}
use Rattle.ssi_identities.specs.Values.{Scene, holds_in, is_as_wanted, scene_of}
use Rattle.ssi_identities.specs.Steps.{Act, Valuation, act_of, choice_act, command_act, guards_of, in_turn, no_act}
use Rattle.ssi_identities.specs.WorkedExamples.{two_flags, l1_is, l1_set_and_l2_not, no_fact_is_false, one_is_set, nested_groups, no_alternative, bit_is, free_to, l1_becomes, l2_becomes, looks_at_what_it_set, undoes_its_guard, copies_l1, sets_then_resets, sets_no_fact, goes_on_after_a_choice}
use Rattle.ssi_identities.proofs.Acts.{act_of_body, act_of_do, act_of_if}
use Rattle.ssi_identities.proofs.Values.{all_hold, bit_holds, free_holds, group_holds, lit_holds}

-- the test of one flag
pub l1_holds : (scene : Scene) (wanted : Bool) → holds_in scene (l1_is wanted) ≡ (is_as_wanted (truth_of scene.state 0) wanted && true)
l1_holds scene wanted = simp (all_hold, lit_holds) refl

-- the test of both flags
pub l1_and_l2_hold : (scene : Scene) → holds_in scene l1_set_and_l2_not ≡ (truth_of scene.state 0 && (not (truth_of scene.state 1) && true))
l1_and_l2_hold scene = simp (all_hold, lit_holds) refl

-- the test of no fact
pub no_fact_holds : (scene : Scene) → holds_in scene no_fact_is_false ≡ (not (truth_of scene.state 2) && true)
no_fact_holds scene = simp (all_hold, lit_holds) refl

-- the test of a bit
pub bit_is_holds : (scene : Scene) (bit : ℕ) (wanted : Bool) → holds_in scene (bit_is bit wanted) ≡ (is_as_wanted (scene.bits bit) wanted && true)
bit_is_holds scene bit wanted = simp (all_hold, bit_holds) refl

-- a group of two tests
pub one_is_set_holds : (scene : Scene) → holds_in scene one_is_set ≡ ((truth_of scene.state 0 && true || (truth_of scene.state 1 && true || false)) && true)
one_is_set_holds scene = simp (all_hold, group_holds, lit_holds) refl

-- a group in a group
pub nested_hold : (scene : Scene) → holds_in scene nested_groups
    ≡ ((truth_of scene.state 0 && (truth_of scene.state 1 && true) || (not (truth_of scene.state 0) && ((not (truth_of scene.state 1) && true || (not (scene.bits 0) && true || false)) && true) || false)) && true)
nested_hold scene = simp (all_hold, group_holds, lit_holds, bit_holds) refl

-- a group without alternatives
pub no_alternative_holds : (scene : Scene) → holds_in scene no_alternative ≡ (false && true)
no_alternative_holds scene = simp (all_hold, group_holds) refl

-- a test of points that are free
pub free_to_holds : (scene : Scene) (points : ℕ) (reverse : Bool) → holds_in scene (free_to points reverse) ≡ (scene.free points reverse && true)
free_to_holds scene points reverse = simp (all_hold, free_holds) refl

-- how the tests of L1 are valued as guards
abbrev pub Guards : Type 0
Guards = Bool → State → Bool

-- the tests of L1 as guards
abbrev pub l1_by : Valuation → Guards
l1_by holds wanted = holds (l1_is wanted)

-- the tests of L1 by the state
abbrev pub l1_in_state : Guards
l1_in_state wanted state = is_as_wanted (truth_of state 0) wanted && true

-- with any report they are valued by the state
pub l1_guards : (report : ℕ) → l1_by (guards_of two_flags report) ≡ l1_in_state
l1_guards report = fun_ext (λ wanted. fun_ext (λ state. l1_holds (scene_of two_flags state report) wanted))

-- a choice with a choice in its branch
abbrev pub looks_act : Guards → Act
looks_act l1 = in_turn (choice_act (l1 false) (in_turn (command_act (l1_becomes true) ∷ choice_act (l1 true) (in_turn (command_act (l2_becomes true) ∷ [])) (in_turn (command_act (l1_becomes false) ∷ [])) ∷ [])) no_act ∷ [])

-- by any guards
pub looks_by : (holds : Valuation) → act_of holds looks_at_what_it_set ≡ looks_act (l1_by holds)
looks_by holds = simp (act_of_body, act_of_do, act_of_if)

-- by the state
pub looks_in : (report : ℕ) → act_of (guards_of two_flags report) looks_at_what_it_set ≡ looks_act l1_in_state
looks_in report = looks_by (guards_of two_flags report) ∙ ap looks_act (l1_guards report)

-- a choice of two commands
abbrev pub undoes_act : Guards → Act
undoes_act l1 = in_turn (choice_act (l1 false) (in_turn (command_act (l1_becomes true) ∷ command_act (l2_becomes true) ∷ [])) no_act ∷ [])

-- by any guards
undoes_by : (holds : Valuation) → act_of holds undoes_its_guard ≡ undoes_act (l1_by holds)
undoes_by holds = simp (act_of_body, act_of_do, act_of_if)

-- by the state
pub undoes_in : (report : ℕ) → act_of (guards_of two_flags report) undoes_its_guard ≡ undoes_act l1_in_state
undoes_in report = undoes_by (guards_of two_flags report) ∙ ap undoes_act (l1_guards report)

-- a choice with an else
abbrev pub copies_act : Guards → Act
copies_act l1 = in_turn (choice_act (l1 true) (in_turn (command_act (l2_becomes true) ∷ [])) (in_turn (command_act (l2_becomes false) ∷ [])) ∷ [])

-- by any guards
copies_by : (holds : Valuation) → act_of holds copies_l1 ≡ copies_act (l1_by holds)
copies_by holds = simp (act_of_body, act_of_do, act_of_if)

-- by the state
pub copies_in : (report : ℕ) → act_of (guards_of two_flags report) copies_l1 ≡ copies_act l1_in_state
copies_in report = copies_by (guards_of two_flags report) ∙ ap copies_act (l1_guards report)

-- two commands
pub resets_by : (holds : Valuation) → act_of holds sets_then_resets ≡ in_turn (command_act (l1_becomes true) ∷ command_act (l1_becomes false) ∷ [])
resets_by holds = simp (act_of_body, act_of_do)

-- a command for no fact
pub no_fact_by : (holds : Valuation) → act_of holds sets_no_fact ≡ in_turn (command_act (record { fact = 2; value = true }) ∷ [])
no_fact_by holds = simp (act_of_body, act_of_do)

-- a choice with an else, and a command after it
abbrev pub goes_on_act : Guards → Act
goes_on_act l1 = in_turn (choice_act (l1 true) (in_turn (command_act (l2_becomes true) ∷ command_act (l2_becomes false) ∷ [])) (in_turn (command_act (l1_becomes true) ∷ [])) ∷ command_act (l2_becomes true) ∷ [])

-- by any guards
pub goes_on_by : (holds : Valuation) → act_of holds goes_on_after_a_choice ≡ goes_on_act (l1_by holds)
goes_on_by holds = simp (act_of_body, act_of_do, act_of_if)

-- by the state
pub goes_on_in : (report : ℕ) → act_of (guards_of two_flags report) goes_on_after_a_choice ≡ goes_on_act l1_in_state
goes_on_in report = goes_on_by (guards_of two_flags report) ∙ ap goes_on_act (l1_guards report)
