use Rattle.std.proofs.Common.{◌≡◌, ◌≤◌, length}
use Rattle.ssi_script.specs.Meanings.{most_cycles}
use Rattle.ssi_script.proofs.ScriptLaws.{ReadSoFar}
use Rattle.ssi_script.proofs.script.steps.Given as goal

abbrev pub invariant-steps : goal.invariant-steps
invariant-steps l = record {
  read : ReadSoFar l.image l.fn.tokens.text l.fn.tokens.end l.fn.tokens.left l.steps.items l.made l.tokens.left;
  few : l.made ≤ most_cycles;
  text : l.tokens.text ≡ l.fn.tokens.text;
  end : l.tokens.end ≡ l.fn.tokens.end;
}

abbrev pub decreases-steps : goal.decreases-steps
decreases-steps l = length l.tokens.left
