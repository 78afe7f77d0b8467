use Rattle.std.proofs.Common.{◌<◌, length, sym, subst, ◌∙◌, arith}
use Rattle.std.specs.Prelude.{All}
use Rattle.std.proofs.lemmas.List.Elements.{All-nil}
use Rattle.ssi_identities.specs.States.{IsStateOf, start_of}
use Rattle.ssi_identities.proofs.Starts.{state_at_start}
use Rattle.ssi_cycle.proofs.interlocking.Interlocking.begin.Goals as goal

pub invariant_of-result : goal.invariant_of-result
invariant_of-result c =
    let counts = c.counts-counts.result in
    let started = subst (λ k. IsStateOf k (start_of counts)) c.counts-counts.ensures.counts (state_at_start counts) in
    record {
      well = c.counts-counts.ensures.well;
      state_now = subst (IsStateOf _) (sym c.in_ok-state.ensures) started;
      state_before = subst (IsStateOf _) (sym c.in_ok-before.ensures) started;
      idle = λ none. c.in_ok-before.ensures ∙ sym c.in_ok-state.ensures;
      requests = subst (All (λ request. request < length c.args.image.requests)) (sym c.new.ensures) (All-nil _);
      slot_within = omega arith;
    }
