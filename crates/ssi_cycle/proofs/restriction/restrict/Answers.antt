use Rattle.std.proofs.Common.{◌≡◌, ap, sym, subst, ◌<◌, length, ◌∙◌, arith}
use Rattle.ssi_identities.specs.DataSets.{counts_of, names_in}
use Rattle.ssi_identities.specs.Wells.{wired_kind}
use Rattle.ssi_identities.specs.States.{IsStateOf, after_settings}
use Rattle.ssi_identities.proofs.States.{keeps_after_settings}
use Rattle.ssi_cycle.specs.Restrictions.{pin_restriction, restriction_of}
use Rattle.ssi_cycle.proofs.Modules.{row_at, row_is_well}
use Rattle.ssi_cycle.proofs.Restricting.{kind_of_row, no_pin_left, pin_next, restriction_from, wired_there}
use Rattle.ssi_cycle.proofs.restriction.restrict.Goals as goal
use Rattle.ssi_cycle.proofs.restriction.restrict.Goals.{in-Some, in_default}

pub restrict_identity-requires-clause-within : goal.restrict_identity-requires-clause-within
restrict_identity-requires-clause-within c =
    let plan = c.args.image.now in
    let at = row_at plan c.args.«module» c.requires.there in
    let well = row_is_well plan c.args.«module» at.row c.requires.well at.row_is in
    let kind = kind_of_row plan c.args.«module» at.row at.row_is c.kind.result c.wired_kind-kind.result c.kind.ensures c.wired_kind-kind.ensures in
    subst (λ k. c.in-Some.identity < length (names_in plan k)) (sym kind)
    (wired_there plan c.args.«module» at.row at.row_is c.loop-pin.pin c.in-Some.identity well (sym c.pin.ensures ∙ c.in-Some.is))

pub loop-pin-preserved : goal.loop-pin-preserved
loop-pin-preserved c =
    let plan = c.args.image.now in
    elim c.match-pin.branch [
      | in-Some w ↦ record {
        left = λ row there.
            let kind = kind_of_row plan c.args.«module» row there c.kind.result c.wired_kind-kind.result c.kind.ensures c.wired_kind-kind.ensures in
            let done = w.state-is ∙ w.restrict_identity.ensures ∙ ap (λ k. after_settings c.loop-pin.state (restriction_of (counts_of plan) k w.in-Some.identity)) kind
            ∙ ap (λ wired. after_settings c.loop-pin.state (pin_restriction (counts_of plan) (wired_kind row.kind) wired)) (sym w.in-Some.is) in
            sym (pin_next plan c.args.«module» row there c.loop-pin.pin c.pin.result c.loop-pin.state c.match-pin.state c.pin.ensures done) ∙ c.loop-pin.invariant.left row there;
        state = subst (IsStateOf (counts_of plan)) (sym (w.state-is ∙ w.restrict_identity.ensures)) (keeps_after_settings (counts_of plan) (restriction_of (counts_of plan) c.wired_kind-kind.result w.in-Some.identity) c.loop-pin.state c.loop-pin.invariant.state);
      }
      | in_default w ↦ record {
        left = λ row there.
            let done = w.state-is ∙ ap (λ wired. after_settings c.loop-pin.state (pin_restriction (counts_of plan) (wired_kind row.kind) wired)) (sym w.in_default.is) in
            sym (pin_next plan c.args.«module» row there c.loop-pin.pin c.pin.result c.loop-pin.state c.match-pin.state c.pin.ensures done) ∙ c.loop-pin.invariant.left row there;
        state = subst (IsStateOf (counts_of plan)) (sym w.state-is) c.loop-pin.invariant.state;
      }
    ]

pub returns : goal.returns
returns c = λ row there.
    let plan = c.args.image.now in
    let end : c.loop-pin.pin ≡ 8 = omega (arith, c.loop-pin.auto, c.loop-pin-test.false) in
    sym (no_pin_left plan row (row_is_well plan c.args.«module» row c.requires.well there) c.loop-pin.state)
    ∙ ap (λ pin. after_settings c.loop-pin.state (restriction_from plan row pin)) (sym end) ∙ c.loop-pin.invariant.left row there
