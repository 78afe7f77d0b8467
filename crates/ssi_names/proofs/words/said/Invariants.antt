use Rattle.std.proofs.Common.{◌≡◌, drop}
use Rattle.ssi_names.specs.Words.{said_by}
use Rattle.ssi_names.proofs.words.said.Given as goal

abbrev pub invariant-loop-fact : goal.invariant-loop-fact
invariant-loop-fact l = said_by (drop l.fact-index l.facts) l.word ≡ said_by l.facts l.word
