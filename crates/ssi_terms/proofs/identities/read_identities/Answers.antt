use Rattle.std.specs.Option.{IfSome}
use Rattle.std.proofs.Common.{subst}
use Rattle.ssi_lexer.proofs.Findings.{flat_finds, none_too_deep}
use Rattle.ssi_terms.specs.Identities.{SpellsIdentities}
use Rattle.ssi_terms.specs.Readers.{found_by, FindsFlat}
use Rattle.ssi_terms.specs.Tests.{ends_file}
use Rattle.ssi_terms.specs.Trees.{IdentityText}
use Rattle.ssi_terms.proofs.Deepening.{deep_identities}
use Rattle.ssi_terms.proofs.Endings.{told}
use Rattle.ssi_terms.proofs.IdentityFiles.{good_identities, file_follows}
use Rattle.ssi_terms.proofs.identities.read_identities.Goals as goal

pub returns : goal.returns
returns c =
    let old = c.args.tokens.now in
    let read = c.identity_files-read in
    let new = read.new.tokens in
    let finds = flat_finds _ _ _ _ _ good_identities deep_identities _ file_follows in
    let tells = told _ _ _ _ _ finds old new read.result c.file_ended.result read.ensures.reads read.ensures.goes_on c.file_ended.ensures in
    record {
      read = tells;
      never_deep = λ place e. none_too_deep _ _ _ _ _ good_identities deep_identities _ file_follows old.left place
          (subst (λ answer. IfSome (found_by answer new.left) (λ found. FindsFlat IdentityText SpellsIdentities ends_file old.left old.end found)) e tells.found);
    }
