use Rattle.ssi_lexer.proofs.Findings.{flat_finding}
use Rattle.ssi_lexer.proofs.Spellings.{one_value}
use Rattle.ssi_terms.proofs.Endings.{is_told}
use Rattle.ssi_terms.proofs.Deepening.{deep_identities}
use Rattle.ssi_terms.proofs.IdentityFiles.{good_identities, file_follows}
use Rattle.ssi_terms.proofs.identities.one_identity_tree.Goals as goal

pub returns-clause-tree : goal.returns-clause-tree
returns-clause-tree c = one_value _ _ _ _ _ good_identities _ file_follows

pub returns-clause-finding : goal.returns-clause-finding
returns-clause-finding c = flat_finding _ _ _ _ _ good_identities deep_identities _ file_follows

pub returns-clause-told : goal.returns-clause-told
returns-clause-told c = is_told _ _ (flat_finding _ _ _ _ _ good_identities deep_identities _ file_follows)
