use Rattle.ssi_lexer.specs.Scan.{stream, tokens_of}
use Rattle.ssi_lexer.proofs.Streams.{front_formed}
use Rattle.ssi_lexer.proofs.Standing.{others_stand}
use Rattle.ssi_lexer.proofs.tokens.Tokens.skip.Goals as goal

pub invariant_of-self : goal.invariant_of-self
invariant_of-self c =
    let front = c.self.inside.front in
    record {
      within = c.cut_front.ensures.within;
      characters = c.cut_front.ensures.characters;
      formed = front_formed front.cursor front.rest.now (tokens_of c.cut_front.new.front) c.cut_front.ensures.tokens;
      stand =
          others_stand c.self.inside.text.now front.ahead front.characters.now (stream front.cursor front.rest.now) (tokens_of c.cut_front.new.front)
          c.in-Next.token c.in-Next.is c.cut_front.ensures.tokens c.self.invariant.stand;
    }
