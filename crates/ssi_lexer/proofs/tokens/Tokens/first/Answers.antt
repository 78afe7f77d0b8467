use Rattle.ssi_lexer.specs.Scan.{stream}
use Rattle.ssi_lexer.proofs.Lengths.{ahead_short}
use Rattle.ssi_lexer.proofs.tokens.Tokens.first.Goals as goal

pub returns-in-Next-clause-short : goal.returns-in-Next-clause-short
returns-in-Next-clause-short c =
    let front = c.self.inside.front in
    ahead_short front.ahead front.characters.now (stream front.cursor front.rest.now) c.in-Next.token c.in-Next.is c.self.invariant.characters c.self.invariant.formed
