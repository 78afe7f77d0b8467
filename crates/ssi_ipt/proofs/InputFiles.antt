-- IPT, by the depth of its bodies: the reader reads its rule of the grammar.
use Rattle.std.proofs.Common.{ℕ, suc, codes}
use Rattle.ssi_lexer.specs.Laws.{Always, Lacks, Deepens, Deep}
use Rattle.ssi_lexer.proofs.Choosing.{Without}
use Rattle.ssi_lexer.proofs.Deepening.{deep_mapped, deep_both, deep_tok}
use Rattle.ssi_lexer.proofs.Spellings.{Follows}
use Rattle.ssi_lexer.specs.TokenTests.{dot}
use Rattle.ssi_terms.specs.declared.tree.Spot.{Spot}
use Rattle.ssi_terms.specs.declared.tree.BodyTree.{BodyTree}
use Rattle.ssi_terms.specs.Tests.{any_number, ends_file}
use Rattle.ssi_terms.specs.SpotRules.{deep_spot}
use Rattle.ssi_terms.proofs.BodyRules.{deep_body}
use Rattle.ssi_terms.proofs.IdentityFiles.{file_follows, file_by_depth}
use Rattle.ssi_ipt.specs.Inputs.{InputsText, SpellsInputs}
use Rattle.ssi_ipt.specs.ReadInputs as spec
use Rattle.ssi_ipt.specs.InputRules.{good_input, input_starts}

deep_input : (depth : ℕ) → Deepens (Spot × BodyTree) (spec.input_entry depth) (spec.input_entry (suc depth))
unfolding spec.input_entry
deep_input depth = deep_mapped (λ x. (x.0, x.1.0)) (deep_both (deep_spot any_number) (deep_both (deep_body depth depth) (deep_tok dot)))

pub files : Deep InputsText spec.inputs SpellsInputs (Lacks any_number) (Without any_number Always)
unfolding spec.inputs
files = file_by_depth (codes "IPT") any_number input_starts (record { good = good_input; deepens = deep_input })

pub files_follow : Follows (Without any_number Always) ends_file
files_follow = file_follows
