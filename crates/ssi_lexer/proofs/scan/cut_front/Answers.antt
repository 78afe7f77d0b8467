use Rattle.std.proofs.Common.{◌∙◌}
use Rattle.ssi_lexer.proofs.Fronts.{ended_front}
use Rattle.ssi_lexer.proofs.scan.cut_front.Goals as goal

pub returns : goal.returns
returns c = record {
  tokens =
      c.end.ensures.tokens
      ∙ ended_front c.loop-front.front.cursor c.loop-front.front.rest.now c.in_default.len_below
      ∙ c.loop-front.invariant.same;
  within = c.end.ensures.within;
  characters = c.end.ensures.characters;
}
