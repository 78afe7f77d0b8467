-- PFM, by the depth of its conditions: the reader reads its rule of the grammar.
use Rattle.std.proofs.Common.{ℕ, suc, codes, List}
use Rattle.ssi_lexer.specs.Laws.{Always, Lacks, Deepens, Deep}
use Rattle.ssi_lexer.proofs.Choosing.{Without}
use Rattle.ssi_lexer.proofs.Deepening.{deep_mapped, deep_both, deep_tok}
use Rattle.ssi_lexer.proofs.Spellings.{Follows}
use Rattle.ssi_lexer.specs.TokenTests.{word, dot}
use Rattle.ssi_terms.specs.declared.tree.Spot.{Spot}
use Rattle.ssi_terms.specs.declared.tree.CondTree.{CondTree}
use Rattle.ssi_terms.specs.Tests.{points, lie_word, ends_file}
use Rattle.ssi_terms.specs.SpotRules.{deep_spot}
use Rattle.ssi_terms.proofs.CondRules.{deep_cond}
use Rattle.ssi_terms.proofs.IdentityFiles.{follows_file, file_by_depth, no_identity}
use Rattle.ssi_pfm.specs.Rules.{RulesText, SpellsRule, SpellsRules}
use Rattle.ssi_pfm.specs.ReadRules as spec
use Rattle.ssi_pfm.specs.RuleLaws.{good_rule, rule_starts}

deep_rule : (depth : ℕ) → Deepens (Spot × Spot × CondTree) (spec.rule_entry depth) (spec.rule_entry (suc depth))
unfolding spec.rule_entry
deep_rule depth =
    deep_mapped (λ x. (x.0, x.1.0, x.1.1.1.0))
    (deep_both (deep_spot points) (deep_both (deep_spot lie_word) (deep_both (deep_tok (word (codes "if"))) (deep_both (deep_cond depth) (deep_tok dot)))))

pub files : Deep RulesText spec.rules SpellsRules (Lacks points) (Without points Always)
unfolding spec.rules
files = file_by_depth (codes "PFM") points rule_starts (record { good = good_rule; deepens = deep_rule })

pub files_follow : Follows (Without points Always) ends_file
files_follow = follows_file points (no_identity (codes "P"))
