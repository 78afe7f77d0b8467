use Rattle.ssi_terms.proofs.Endings.{told_front, tells_front}
use Rattle.ssi_terms.specs.CommandRules.{good_command}
use Rattle.ssi_terms.proofs.BodyRules.{deep_command}
use Rattle.ssi_terms.proofs.bodies.read_command.Goals as goal

pub returns : goal.returns
returns c =
    let old = c.args.tokens.now in
    let read = c.one_command-read in
    let new = read.new.tokens in
    let clauses = told_front _ _ _ good_command deep_command old.left old.end read.result new.left new.end c.front_ended.result read.ensures.reads read.ensures.stops read.ensures.goes_on.end c.front_ended.ensures in
    record {
      read = tells_front _ _ old new c.front_ended.result read.ensures.goes_on clauses.told;
      only = clauses.only;
      never_memory = clauses.never_memory;
    }
