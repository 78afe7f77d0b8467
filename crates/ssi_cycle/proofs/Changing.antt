-- Deeds and events make the changes that lead from the state before them to the one after them.
use Rattle.std.proofs.Common.{arith, suc, ◌≡◌, List, [], ◌∷◌, ◌++◌, map, refl, ap, sym, subst, ◌∙◌}
use Rattle.std.specs.Prelude.{All, Contains}
use Rattle.std.proofs.lemmas.List.Elements.{All-append, All-cons, All-nil}
use Rattle.ssi_identities.specs.declared.fact.Counts.{Counts}
use Rattle.ssi_identities.specs.DataSets.{Plan, counts_of}
use Rattle.ssi_identities.specs.States.{IsStateOf, State}
use Rattle.ssi_identities.specs.Steps.{Step, after_steps, steps_of}
use Rattle.ssi_identities.proofs.Starts.{state_at_start}
use Rattle.ssi_identities.proofs.States.{keeps_after_settings}
use Rattle.ssi_cycle.specs.Deeds.{Deed, after_deed, after_deeds}
use Rattle.ssi_cycle.specs.Deeds.Deed.{Acts, Restricts}
use Rattle.ssi_cycle.specs.Restrictions.{restricted, restriction_of_module}
use Rattle.ssi_cycle.specs.Worlds.{World, Event, after, after_event, after_events, deeds_of, deeds_of_event, start_of}
use Rattle.ssi_cycle.specs.Worlds.Event.{Put, Minor}
use Rattle.ssi_cycle.specs.Moments.{Change, IsChain, after_changes, after_of, before_of, changes_of_deed, changes_of_deeds, changes_of_events, moments_of, states_around}
use Rattle.ssi_cycle.specs.Moments.Change.{Stepped}
use Rattle.ssi_cycle.proofs.Acts.{AreLinked, step_keeps, steps_linked}

-- changes lead from a state to another, each from where the one before it ended; from a state of a layout on, all states around them are of it
pub record Lead (counts : Counts) (before after : State) (changes : List Change) : Type 0 where
  pub chain : IsChain before changes
  pub last : after ≡ after_changes before changes
  pub keeps : IsStateOf counts before → IsStateOf counts after
  pub states : IsStateOf counts before → All (IsStateOf counts) (states_around changes)

chain_more : (state : State) (changes more : List Change) → IsChain state changes → IsChain (after_changes state changes) more → IsChain state (changes ++ more)
chain_more state [] more one next = next
chain_more state (change ∷ changes) more one next = (one.0, chain_more (after_of change) changes more one.1 next)

after_more : (state : State) (changes more : List Change) → after_changes state (changes ++ more) ≡ after_changes (after_changes state changes) more
after_more state [] more = refl
after_more state (change ∷ changes) more = after_more (after_of change) changes more

around_more : (changes more : List Change) → states_around (changes ++ more) ≡ states_around changes ++ states_around more
around_more [] more = refl
around_more (change ∷ changes) more = ap (λ states. before_of change ∷ after_of change ∷ states) (around_more changes more)

-- the state after deeds and further ones
pub deeds_more : (plan : Plan) (state : State) (deeds more : List Deed) → after_deeds plan state (deeds ++ more) ≡ after_deeds plan (after_deeds plan state deeds) more
deeds_more plan state [] more = refl
deeds_more plan state (deed ∷ deeds) more = deeds_more plan (after_deed plan state deed) deeds more

module _ (counts : Counts) where
  none_lead : (state : State) → Lead counts state state []
  none_lead state = record { chain = tt; last = refl; keeps = λ of. of; states = λ of. All-nil (IsStateOf counts) }

  more_lead : (before mid after : State) (changes more : List Change) → Lead counts before mid changes → Lead counts mid after more → Lead counts before after (changes ++ more)
  more_lead before mid after changes more one next = record {
    chain = chain_more before changes more one.chain (subst (λ s. IsChain s more) one.last next.chain);
    last = next.last ∙ ap (λ s. after_changes s more) one.last ∙ sym (after_more before changes more);
    keeps = λ of. next.keeps (one.keeps of);
    states = λ of. subst (All (IsStateOf counts)) (sym (around_more changes more)) (All-append (IsStateOf counts) (states_around changes) (states_around more) (one.states of) (next.states (one.keeps of)));
  }

  steps_lead : (state : State) (steps : List Step) → AreLinked state steps → Lead counts state (after_steps state steps) (map Stepped steps)
  steps_lead state [] linked = none_lead state
  steps_lead state (step ∷ steps) linked =
      let rest = steps_lead step.after steps linked.2 in
      let left : IsStateOf counts state → IsStateOf counts step.after = step_keeps counts state step linked.0 linked.1 in
      record {
        chain = (linked.0, rest.chain);
        last = rest.last;
        keeps = λ of. rest.keeps (left of);
        states = λ of.
            let around = states_around (map Stepped steps) in
            All-cons (IsStateOf counts) step.before (step.after ∷ around) (subst (IsStateOf counts) (sym linked.0) of) (All-cons (IsStateOf counts) step.after around (left of) (rest.states (left of)));
      }

  module _ (plan : Plan) where
    -- a deed
    pub deed_leads : (state : State) (deed : Deed) → Lead counts state (after_deed plan state deed) (changes_of_deed plan state deed)
    deed_leads state (Acts body report) = steps_lead state (steps_of plan body state report) (steps_linked plan body state report)
    deed_leads state (Restricts row) =
        let left : IsStateOf counts state → IsStateOf counts (restricted plan row state) = keeps_after_settings counts (restriction_of_module plan row) state in
        record {
          chain = (refl, tt);
          last = refl;
          keeps = left;
          states = λ of. All-cons (IsStateOf counts) state (restricted plan row state ∷ []) of (All-cons (IsStateOf counts) (restricted plan row state) [] (left of) (All-nil (IsStateOf counts)));
        }

    -- deeds, one after another
    pub deeds_lead : (state : State) (deeds : List Deed) → Lead counts state (after_deeds plan state deeds) (changes_of_deeds plan state deeds)
    deeds_lead state [] = none_lead state
    deeds_lead state (deed ∷ deeds) =
        let next = after_deed plan state deed in
        more_lead state next (after_deeds plan next deeds) (changes_of_deed plan state deed) (changes_of_deeds plan next deeds) (deed_leads state deed) (deeds_lead next deeds)

    event_leads : (world : World) (event : Event) → Lead counts world.state (after_event plan world event).state (changes_of_deeds plan world.state (deeds_of_event plan world event))
    event_leads world (Put request) = none_lead world.state
    event_leads world (Minor arrived) = deeds_lead world.state (deeds_of plan world arrived)

    -- a list of events
    pub events_lead : (world : World) (events : List Event) → Lead counts world.state (after_events plan world events).state (changes_of_events plan world events)
    events_lead world [] = none_lead world.state
    events_lead world (event ∷ events) =
        let next = after_event plan world event in
        more_lead world.state next.state (after_events plan next events).state (changes_of_deeds plan world.state (deeds_of_event plan world event)) (changes_of_events plan next events)
        (event_leads world event) (events_lead next events)

-- ---- moments

-- the state after some changes stands among the one before them and those around each
pub last_is_moment : (state : State) (changes : List Change) → Contains (state ∷ states_around changes) (after_changes state changes)
last_is_moment state [] = (0, omega arith, refl)
last_is_moment state (change ∷ changes) = let inner = last_is_moment (after_of change) changes in (suc (suc inner.0), omega (arith, inner.1), inner.2)

-- the state after a list of events from the start is a moment
pub after_is_moment : (plan : Plan) (events : List Event) → Contains (moments_of plan events) (after plan events).state
after_is_moment plan events =
    let world = start_of plan in
    subst (Contains (moments_of plan events)) (sym (events_lead (counts_of plan) plan world events).last) (last_is_moment world.state (changes_of_events plan world events))

-- all moments are states of the layout
pub moments_of_layout : (plan : Plan) (events : List Event) → All (IsStateOf (counts_of plan)) (moments_of plan events)
moments_of_layout plan events =
    let world = start_of plan in
    let begun = state_at_start (counts_of plan) in
    All-cons (IsStateOf (counts_of plan)) world.state (states_around (changes_of_events plan world events)) begun ((events_lead (counts_of plan) plan world events).states begun)
