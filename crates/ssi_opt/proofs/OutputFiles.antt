-- OPT, by the depth of its conditions: the reader reads its rule of the grammar.
use Rattle.std.proofs.Common.{ℕ, suc, codes}
use Rattle.ssi_lexer.specs.Laws.{Always, Lacks, Deepens, Deep}
use Rattle.ssi_lexer.specs.TokenTests.{word, dot}
use Rattle.ssi_lexer.proofs.Choosing.{Without}
use Rattle.ssi_lexer.proofs.Deepening.{deep_mapped, deep_both, deep_tok, deep_separated_by}
use Rattle.ssi_lexer.proofs.Spellings.{Follows}
use Rattle.ssi_terms.specs.declared.tree.Spot.{Spot}
use Rattle.ssi_terms.specs.declared.tree.CondTree.{CondTree}
use Rattle.ssi_terms.specs.Tests.{any_number, ends_file}
use Rattle.ssi_terms.specs.SpotRules.{deep_spot}
use Rattle.ssi_terms.proofs.CondRules.{deep_cond}
use Rattle.ssi_terms.proofs.IdentityFiles.{file_follows, file_by_depth}
use Rattle.ssi_opt.specs.Outputs.{OutputText, OutputsText, SpellsOutputs}
use Rattle.ssi_opt.specs.ReadOutputs as spec
use Rattle.ssi_opt.specs.OutputRules.{good_output, output_starts}

deep_bit : (depth : ℕ) → Deepens (Spot × CondTree) (spec.output_bit depth) (spec.output_bit (suc depth))
unfolding spec.output_bit
deep_bit depth = deep_mapped (λ x. (x.0, x.1.1)) (deep_both (deep_spot any_number) (deep_both (deep_tok (word (codes "if"))) (deep_cond depth)))

deep_output : (depth : ℕ) → Deepens OutputText (spec.output_entry depth) (spec.output_entry (suc depth))
unfolding spec.output_entry
deep_output depth =
    deep_mapped (λ x. record { address = x.0; bits = x.1.1.0 })
    (deep_both (deep_spot any_number) (deep_both (deep_tok (word (codes "bit"))) (deep_both (deep_separated_by (word (codes "bit")) (deep_bit depth)) (deep_tok dot))))

pub files : Deep OutputsText spec.outputs SpellsOutputs (Lacks any_number) (Without any_number Always)
unfolding spec.outputs
files = file_by_depth (codes "OPT") any_number output_starts (record { good = good_output; deepens = deep_output })

pub files_follow : Follows (Without any_number Always) ends_file
files_follow = file_follows
