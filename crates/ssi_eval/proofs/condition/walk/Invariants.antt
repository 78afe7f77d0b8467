use Rattle.std.proofs.Common.{◌+◌, ◌*◌, ◌≤◌, length}
use Rattle.ssi_eval.specs.Frames.{Reading, Fits, GoesOn, bytes_in}
use Rattle.ssi_eval.proofs.condition.walk.Given as goal

-- each reading that went on at the start goes on, with no more bytes left
abbrev pub invariant-walk : goal.invariant-walk
invariant-walk l = record {
  on : (reading : Reading) → Fits reading l.base l.state l.report → GoesOn reading l.fn.stack.items l.fn.level l.fn.value → GoesOn reading l.stack.items l.level l.value;
  left : bytes_in l.level l.stack.items ≤ bytes_in l.fn.level l.fn.stack.items;
}

-- each turn reads some bytes or leaves a level
abbrev pub decreases-walk : goal.decreases-walk
decreases-walk l = 2 * bytes_in l.level l.stack.items + length l.stack.items
