use Rattle.std.proofs.Common.{◌≡◌, length}
use Rattle.ssi_lexer.specs.Scan.{IsWithin, stream}
use Rattle.ssi_lexer.proofs.scan.cut_front.Given as goal

abbrev pub invariant-loop-front : goal.invariant-loop-front
invariant-loop-front l = record { same : stream l.front.cursor l.front.rest.now ≡ stream l.fn.front.cursor l.fn.front.rest.now; within : IsWithin l.front.cursor (length l.front.rest.now) }

abbrev pub decreases-loop-front : goal.decreases-loop-front
decreases-loop-front l = length l.front.rest.now
