-- PRR, by the depth of its bodies: the reader reads its rule of the grammar.
use Rattle.std.proofs.Common.{ℕ, suc, codes, List}
use Rattle.ssi_lexer.specs.Laws.{Always, Lacks, Deepens, Deep}
use Rattle.ssi_lexer.proofs.Choosing.{Without}
use Rattle.ssi_lexer.proofs.Deepening.{deep_mapped, deep_both, deep_tok}
use Rattle.ssi_lexer.proofs.Spellings.{Follows}
use Rattle.ssi_lexer.specs.TokenTests.{dot}
use Rattle.ssi_terms.specs.declared.tree.Spot.{Spot}
use Rattle.ssi_terms.specs.declared.tree.BodyTree.{BodyTree}
use Rattle.ssi_terms.specs.Tests.{request, ends_file}
use Rattle.ssi_terms.specs.SpotRules.{deep_spot}
use Rattle.ssi_terms.proofs.BodyRules.{deep_body}
use Rattle.ssi_terms.proofs.IdentityFiles.{follows_file, file_by_depth, no_identity}
use Rattle.ssi_prr.specs.Requests.{RequestsText, SpellsRequest, SpellsRequests}
use Rattle.ssi_prr.specs.ReadRequests as spec
use Rattle.ssi_prr.specs.RequestRules.{good_request, request_starts}

deep_request : (depth : ℕ) → Deepens (Spot × BodyTree) (spec.request_entry depth) (spec.request_entry (suc depth))
unfolding spec.request_entry
deep_request depth = deep_mapped (λ x. (x.0, x.1.0)) (deep_both (deep_spot request) (deep_both (deep_body depth depth) (deep_tok dot)))

pub files : Deep RequestsText spec.requests SpellsRequests (Lacks request) (Without request Always)
unfolding spec.requests
files = file_by_depth (codes "PRR") request request_starts (record { good = good_request; deepens = deep_request })

pub files_follow : Follows (Without request Always) ends_file
files_follow = follows_file request (no_identity (codes "Q"))
