use Rattle.std.proofs.Common.{arith, ap, sym, ◌∙◌}
use Rattle.std.specs.Prelude.{if◌then◌else◌}
use Rattle.ssi_identities.specs.Allowed.{is_decided, is_number_of, is_reported}
use Rattle.ssi_identities.proofs.FactTests.{number_by_kind, past_the_facts}
use Rattle.ssi_identities.proofs.well_bodies.may_command.Goals as goal

pub returns-then-fact-fact_count : goal.returns-then-fact-fact_count
returns-then-fact-fact_count c = sym (past_the_facts (if c.args.place.now.is_input then is_reported else is_decided) c.args.place.now.counts c.args.fact (omega (arith, c.fact_count.ensures)))

pub returns-then-place : goal.returns-then-place
returns-then-place c =
    let place = c.args.place.now in
    let fact = c.fact_of-kind.result in
    c.is_reported.ensures
    ∙ sym (number_by_kind is_reported place.counts fact.0 fact.1 c.args.fact c.fact_of-kind.ensures.within c.fact_of-kind.ensures.number)
    ∙ ap (λ is_input. is_number_of (if is_input then is_reported else is_decided) place.counts c.args.fact) (sym c.if-place.true)

pub returns-else-place : goal.returns-else-place
returns-else-place c =
    let place = c.args.place.now in
    let fact = c.fact_of-kind.result in
    c.is_decided.ensures
    ∙ sym (number_by_kind is_decided place.counts fact.0 fact.1 c.args.fact c.fact_of-kind.ensures.within c.fact_of-kind.ensures.number)
    ∙ ap (λ is_input. is_number_of (if is_input then is_reported else is_decided) place.counts c.args.fact) (sym c.if-place.false)
