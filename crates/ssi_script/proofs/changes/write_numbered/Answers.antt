use Rattle.std.proofs.Common.{◌≡◌, ◌<◌}
use Rattle.ssi_identities.specs.DataSets.{counts_of}
use Rattle.ssi_identities.specs.Facts.{count_of, fact_number_of}
use Rattle.ssi_script.proofs.Shown.{fact_is}
use Rattle.ssi_script.proofs.changes.write_numbered.Goals as goal

pub returns : goal.returns
returns g c =
    let counts = counts_of c.args.image.now in
    let within : c.fact_of-kind.result.1 < count_of counts c.fact_of-kind.result.0 = rw c.counts.ensures.counts at c.fact_of-kind.ensures.within in
    let number : fact_number_of counts c.fact_of-kind.result.0 c.fact_of-kind.result.1 ≡ c.args.fact = rw c.counts.ensures.counts at c.fact_of-kind.ensures.number in
    rw (fact_is counts _ _ _ within number) c.write_fact.ensures
