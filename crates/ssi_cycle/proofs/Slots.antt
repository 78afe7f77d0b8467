-- The statements of a slot, from one on.
use Rattle.std.proofs.Common.{◌≡◌, ◌↔◌, ℕ, suc, ◌+◌, ◌-◌, ◌*◌, ◌<◌, ◌≤◌, nat_lt, IsTrue, true, List, [], ◌∷◌, length, map, take, drop, get_or, min, Some, is_some, refl, ap, sym, subst, ◌∙◌, arith}
use Rattle.std.proofs.lemmas.Bool.Decides.{nat_tests}
use Rattle.std.proofs.lemmas.List.{drop_more, take_min, length-drop, length-map, length-take}
use Rattle.std.proofs.lemmas.Option.{slice_get-get_or}
use Rattle.ssi_identities.specs.declared.rule.Body.{Body}
use Rattle.ssi_identities.specs.DataSets.{Plan, StmtPlan, counts_of}
use Rattle.ssi_identities.specs.States.{IsStateOf, State}
use Rattle.ssi_identities.specs.Steps.{effect_of}
use Rattle.ssi_identities.specs.Values.{cond_of}
use Rattle.ssi_image.specs.declared.places.BodyAt.TheVariants.{Statement}
use Rattle.ssi_identities.specs.Allowed.{body_of_statement}
use Rattle.ssi_image.specs.Places.{body_at}
use Rattle.ssi_cycle.specs.Deeds.{Deed, after_deeds}
use Rattle.ssi_cycle.specs.Deeds.Deed.{Acts}
use Rattle.ssi_cycle.specs.Statements.{deed_of_statement, deeds_of_statements, share_of, statements_in}
use Rattle.ssi_cycle.proofs.Changing.{deed_leads}

-- a statement without commands
pub no_statement : StmtPlan
no_statement = record { commands = []; guard = cond_of [] }

-- the deeds of the statements from one on, up to another
abbrev pub deeds_between : List StmtPlan → ℕ → ℕ → List Deed
deeds_between statements from end = map deed_of_statement (take (end - from) (drop from statements))

between_next : (statements : List StmtPlan) (from end : ℕ) → from < end → end ≤ length statements
    → deeds_between statements from end ≡ deed_of_statement (get_or statements from no_statement) ∷ deeds_between statements (from + 1) end
between_next statements from end within reach =
    let one : end - from ≡ suc (end - (from + 1)) = omega arith in
    rw (one, drop_more statements from no_statement (omega arith)) refl

-- there is a statement
pub statement_there : (plan : Plan) (from : ℕ) → from < length plan.statements → is_some (body_at plan (Statement from)) ≡ true
statement_there plan from within = rw (slice_get-get_or plan.statements from no_statement within) refl

-- one statement acts, and those after it are left
pub statement_next : (plan : Plan) (from end : ℕ) (old new : State) → from < end → end ≤ length plan.statements
    → ((body : Body) → body_at plan (Statement from) ≡ Some body → new ≡ effect_of plan body old 0)
    → after_deeds plan old (deeds_between plan.statements from end) ≡ after_deeds plan new (deeds_between plan.statements (from + 1) end)
statement_next plan from end old new within reach acts =
    let row = get_or plan.statements from no_statement in
    let there = slice_get-get_or plan.statements from no_statement (omega arith) in
    let done = acts (body_of_statement row) (rw there refl) in
    ap (after_deeds plan old) (between_next plan.statements from end within reach) ∙ ap (λ state. after_deeds plan state (deeds_between plan.statements (from + 1) end)) (sym done)

-- those of a slot, as far as there are so many
pub slot_deeds : (plan : Plan) (count share from end slot : ℕ) → count ≡ length plan.statements → share ≡ share_of count → from ≡ slot → end ≡ min count (from * share + share)
    → deeds_of_statements plan slot ≡ deeds_between plan.statements (from * share) end
slot_deeds plan count share from end slot count_is share_is from_is end_is =
    let statements = plan.statements in
    let first = from * share in
    let room : end - first ≡ min share (length (drop first statements)) = rw (length-drop, end_is, count_is) (omega arith) in
    ap (map deed_of_statement) (rw (← count_is, ← share_is, ← from_is, room) (sym (take_min share (drop first statements))))

-- a statement leaves a state of the layout
pub statement_keeps : (plan : Plan) (from : ℕ) (old new : State) → from < length plan.statements → ((body : Body) → body_at plan (Statement from) ≡ Some body → new ≡ effect_of plan body old 0)
    → IsStateOf (counts_of plan) old → IsStateOf (counts_of plan) new
statement_keeps plan from old new within acts of =
    let body = body_of_statement (get_or plan.statements from no_statement) in
    subst (IsStateOf (counts_of plan)) (sym (acts body (rw (slice_get-get_or plan.statements from no_statement within) refl))) ((deed_leads (counts_of plan) plan old (Acts body 0)).keeps of)

-- no statement is left
pub none_between : (plan : Plan) (from end : ℕ) (state : State) → end ≤ from → after_deeds plan state (deeds_between plan.statements from end) ≡ state
none_between plan from end state past =
    let none : end - from ≡ 0 = omega arith in
    rw none refl

-- a slot has a share of the statements, as far as there are so many
slot_count : (statements : List StmtPlan) (slot : ℕ) → length (statements_in statements slot) ≡ min (share_of (length statements)) (length statements - slot * share_of (length statements))
slot_count statements slot = length-take (share_of (length statements)) (drop (slot * share_of (length statements)) statements) ∙ ap (min (share_of (length statements))) (length-drop (slot * share_of (length statements)) statements)

-- there are some where the first place of the slot is one of a statement, and nowhere else
some_below : (count first : ℕ) → IsTrue (nat_lt first count) ↔ (0 < min (share_of count) (count - first))
some_below count first = ((λ below. grind (arith, nat_tests)), (λ some. grind (arith, nat_tests)))

pub slot_has : (plan : Plan) (slot : ℕ) → IsTrue (nat_lt (slot * share_of (length plan.statements)) (length plan.statements)) ↔ (0 < length (deeds_of_statements plan slot))
slot_has plan slot =
    let statements = plan.statements in
    rw (length-map (statements_in statements slot) deed_of_statement, slot_count statements slot) (some_below (length statements) (slot * share_of (length statements)))
