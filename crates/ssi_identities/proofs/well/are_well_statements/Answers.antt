use Rattle.std.proofs.Common.{◌↔◌, IsTrue, subst, rules}
use Rattle.std.specs.Prelude.{All}
use Rattle.ssi_identities.specs.Allowed.{BodyScope}
use Rattle.ssi_identities.specs.Wells.{IsWellStatement}
use Rattle.ssi_identities.proofs.well.are_well_statements.Goals as goal

pub returns : goal.returns
returns c = subst (λ (scope : BodyScope). IsTrue c.all.result ↔ All (IsWellStatement scope) c.args.plan.now.statements) c.decision_place-place.ensures (search rules)
