use Rattle.std.proofs.Common.{◌≤◌, All, string_len, vec_len}
use Rattle.ssi_run.proofs.command_line.command_words.Given as goal

abbrev pub invariant-loop-place : goal.invariant-loop-place
invariant-loop-place g l = record {
  few : vec_len l.words ≤ 3;
  short : All (λ word. string_len word ≤ 7) l.words.items;
}
