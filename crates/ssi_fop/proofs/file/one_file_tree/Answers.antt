use Rattle.ssi_lexer.proofs.Depths.{one_value}
use Rattle.ssi_lexer.proofs.Findings.{deep_finding}
use Rattle.ssi_terms.specs.Grammar.{deepest}
use Rattle.ssi_terms.proofs.Endings.{is_told}
use Rattle.ssi_fop.proofs.StatementFiles.{files, files_follow}
use Rattle.ssi_fop.proofs.file.one_file_tree.Goals as goal

pub returns-clause-tree : goal.returns-clause-tree
returns-clause-tree c = one_value _ _ _ _ _ files _ files_follow

pub returns-clause-finding : goal.returns-clause-finding
returns-clause-finding c = deep_finding _ _ _ _ _ files _ files_follow deepest

pub returns-clause-told : goal.returns-clause-told
returns-clause-told c = is_told _ _ (deep_finding _ _ _ _ _ files _ files_follow deepest)
