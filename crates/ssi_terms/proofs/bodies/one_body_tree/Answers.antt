use Rattle.ssi_lexer.specs.Laws.{Always}
use Rattle.ssi_lexer.proofs.Depths.{one_value}
use Rattle.ssi_lexer.proofs.Findings.{deep_finding}
use Rattle.ssi_lexer.proofs.Spellings as flat
use Rattle.ssi_terms.specs.Grammar.{deepest}
use Rattle.ssi_terms.proofs.Endings.{is_told}
use Rattle.ssi_terms.proofs.CondRules.{list_follows}
use Rattle.ssi_terms.specs.CommandRules.{good_command}
use Rattle.ssi_terms.proofs.BodyRules.{bodies}
use Rattle.ssi_terms.proofs.Endings.{Anything}
use Rattle.ssi_terms.proofs.bodies.one_body_tree.Goals as goal

pub returns-clause-tree : goal.returns-clause-tree
returns-clause-tree c = one_value _ _ _ _ _ bodies _ list_follows

pub returns-clause-finding : goal.returns-clause-finding
returns-clause-finding c = deep_finding _ _ _ _ _ bodies _ list_follows deepest

pub returns-clause-told : goal.returns-clause-told
returns-clause-told c = is_told _ _ (deep_finding _ _ _ _ _ bodies _ list_follows deepest)

pub returns-clause-command : goal.returns-clause-command
returns-clause-command c = flat.one_value _ _ _ _ _ good_command _ Anything
