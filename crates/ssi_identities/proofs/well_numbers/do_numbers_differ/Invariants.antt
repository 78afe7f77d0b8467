use Rattle.std.proofs.Common.{drop}
use Rattle.ssi_identities.proofs.Differing.{Differ}
use Rattle.ssi_identities.proofs.well_numbers.do_numbers_differ.Given as goal

-- from the index on they differ exactly where all do
abbrev pub invariant-loop-index : goal.invariant-loop-index
invariant-loop-index g l = record {
  all : Differ g.T.Numbered.number (drop l.index l.rows) → Differ g.T.Numbered.number l.rows;
  rest : Differ g.T.Numbered.number l.rows → Differ g.T.Numbered.number (drop l.index l.rows);
}
