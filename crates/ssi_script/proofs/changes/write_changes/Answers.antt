use Rattle.std.proofs.Common.{rules, ◌+◌, ◌++◌, ap, sym, ◌∙◌, drop, arith}
use Rattle.std.specs.List.{flat_map}
use Rattle.ssi_base.proofs.Writing.{Written-past}
use Rattle.ssi_identities.specs.DataSets.{Plan, counts_of}
use Rattle.ssi_identities.specs.Facts.{facts_of}
use Rattle.ssi_script.specs.Lines.{change_of, fact_at, fact_text}
use Rattle.ssi_script.proofs.Rest.{less_left, none_left, stopped}
use Rattle.ssi_script.proofs.Shown.{change_found, next_text, none_found, no_text}
use Rattle.ssi_script.proofs.changes.write_changes.Goals as goal

pub returns-in_err-write_numbered : goal.returns-in_err-write_numbered
returns-in_err-write_numbered g c =
    let core = c.args.core.now in
    let found = change_found core.before core.world.state c.changes.from c.changes.next c.in-Some.fact c.in-Some.value (grind arith) c.changes.invariant.next in
    let text = next_text core.plan core.before core.world.state c.requires.whole c.changes.from c.in-Some.fact c.in-Some.value found in
    let rest = flat_map (change_of core.plan core.before core.world.state) (drop (c.in-Some.fact + 1) (facts_of (counts_of core.plan))) in
    let shown = ap (λ (plan : Plan). fact_text plan (fact_at (counts_of plan) c.in-Some.fact) c.in-Some.value ++ rest) (sym c.image.ensures) in
    let whole = text ∙ shown in
    stopped _ (rw whole at c.changes.invariant.left) (search rules) c.from_residual.ensures.0 c.write_numbered.ensures

pub changes-preserved : goal.changes-preserved
changes-preserved g c =
    let core = c.args.core.now in
    let found = change_found core.before core.world.state c.changes.from c.changes.next c.in-Some.fact c.in-Some.value (grind arith) c.changes.invariant.next in
    let text = next_text core.plan core.before core.world.state c.requires.whole c.changes.from c.in-Some.fact c.in-Some.value found in
    let rest = flat_map (change_of core.plan core.before core.world.state) (drop (c.in-Some.fact + 1) (facts_of (counts_of core.plan))) in
    let shown = ap (λ (plan : Plan). fact_text plan (fact_at (counts_of plan) c.in-Some.fact) c.in-Some.value ++ rest) (sym c.image.ensures) in
    let whole = text ∙ shown in
    record {
      left = less_left {piece = fact_text c.image.result.now (fact_at (counts_of c.image.result.now) c.in-Some.fact) c.in-Some.value} {rest = rest} (rw whole at c.changes.invariant.left) (Written-past c.in_ok-write_numbered.is c.branch-write_numbered.ensures c.write_numbered.ensures);
      within = omega (arith, found.within);
      next = c.next_change-next.ensures.change;
    }

pub returns : goal.returns
returns g c =
    let core = c.args.core.now in
    let same = none_found core.before core.world.state c.changes.from c.changes.next (grind arith) c.changes.invariant.next in
    let none = no_text core.plan core.before core.world.state c.requires.whole c.changes.from c.changes.invariant.within same in
    none_left (rw none at c.changes.invariant.left)
