use Rattle.std.specs.Prelude.{[]}
use Rattle.ssi_run.proofs.packed_tests.image_of.Goals as goal

pub resolve-requires-clause-spelled : goal.resolve-requires-clause-spelled
resolve-requires-clause-spelled g c =
    let taken = c.in_ok-tree.ensures.found in
    record {
      lexemes = c.new-tokens.result.left;
      end = c.new-tokens.result.end;
      tokens = c.new-tokens.ensures.tokens;
      before = [];
      files = taken.used;
      after = c.read_source.new.tokens.left;
      parts = taken.parts;
      spells = taken.spells;
    }
