-- The whole source, by the depth of its conditions and bodies: the reader reads its rule of the grammar.
use Rattle.std.proofs.Common.{◌≡◌, ℕ, Bool, false, codes, List, refl}
use Rattle.ssi_lexer.specs.Lexemes.{Lexeme}
use Rattle.ssi_lexer.specs.TokenTests.{Is}
use Rattle.ssi_lexer.specs.Parsers.{Parser, ◌&◌}
use Rattle.ssi_lexer.specs.Laws.{StartsWith, Lacks, Always, Deep}
use Rattle.ssi_lexer.proofs.Choosing.{Without}
use Rattle.ssi_lexer.proofs.Joining.{Both, both, good_mapped}
use Rattle.ssi_lexer.proofs.Sequences.{joined_by}
use Rattle.ssi_lexer.proofs.Deepening.{deep_mapped, deep_both}
use Rattle.ssi_lexer.proofs.Spellings.{Follows}
use Rattle.ssi_lexer.proofs.Starting.{word_not_number, starts_both}
use Rattle.ssi_terms.specs.declared.tree.Spot.{Spot}
use Rattle.ssi_terms.specs.declared.tree.BodyTree.{BodyTree}
use Rattle.ssi_terms.specs.declared.tree.CondTree.{CondTree}
use Rattle.ssi_terms.specs.Trees.{IdentityText}
use Rattle.ssi_terms.specs.Tests.{points, request, any_identity, any_number, ends_file}
use Rattle.ssi_terms.specs.Identities.{SpellsIdentities}
use Rattle.ssi_terms.specs.ReadIdentities as files
use Rattle.ssi_terms.proofs.Deepening.{deep_identities}
use Rattle.ssi_terms.proofs.IdentityFiles.{file_starts, file_follows, good_identities, no_identity}
use Rattle.ssi_prr.specs.Requests.{RequestsText, SpellsRequest, SpellsRequests}
use Rattle.ssi_prr.specs.ReadRequests as prr
use Rattle.ssi_prr.proofs.RequestFiles as prr_files
use Rattle.ssi_pfm.specs.Rules.{RulesText, SpellsRule, SpellsRules}
use Rattle.ssi_pfm.specs.ReadRules as pfm
use Rattle.ssi_pfm.proofs.RuleFiles as pfm_files
use Rattle.ssi_fop.specs.Statements.{StatementText, StatementsText, SpellsStatement, SpellsStatements}
use Rattle.ssi_fop.specs.ReadStatements as fop
use Rattle.ssi_fop.proofs.StatementFiles as fop_files
use Rattle.ssi_opt.specs.Outputs.{OutputText, OutputsText, SpellsOutput, SpellsOutputs}
use Rattle.ssi_opt.specs.ReadOutputs as opt
use Rattle.ssi_opt.proofs.OutputFiles as opt_files
use Rattle.ssi_ipt.specs.Inputs.{InputsText, SpellsInput, SpellsInputs}
use Rattle.ssi_ipt.specs.ReadInputs as ipt
use Rattle.ssi_ipt.proofs.InputFiles as ipt_files
use Rattle.ssi_names.specs.SourceTexts.{SourceText}
use Rattle.ssi_names.specs.Sources.{SpellsSource, the_source}
use Rattle.ssi_names.specs.ReadSource as spec

-- ---- files one after another

-- files that begin with the word `file`, and end where no such token comes
record Files (A : Type 0) (p : ℕ → Parser A) (S : ℕ → A → List Lexeme → Type 0) (test : Lexeme → Bool) : Type 0 where
  deep : Deep A p S (Lacks test) (Without test Always)
  starts : (depth : ℕ) (x : A) (u : List Lexeme) → S depth x u → StartsWith ends_file u

-- the first files end before the word `file` of those that follow
joined_files : {A B : Type 0} {p : ℕ → Parser A} {q : ℕ → Parser B} {S : ℕ → A → List Lexeme → Type 0} {T : ℕ → B → List Lexeme → Type 0} {test other : Lexeme → Bool}
    → ((t : Lexeme) → Is ends_file t → test t ≡ false) → Deep A p S (Lacks test) (Without test Always) → Files B q T other
    → Deep (A × B) (λ depth. p depth & q depth) (λ depth. Both A B (S depth) (T depth)) (Lacks other) (Without other Always)
joined_files {test = test} differs first rest = record {
  good = λ depth. joined_by test ends_file (rest.starts depth) differs (first.good depth) (rest.deep.good depth);
  deepens = λ depth. deep_both (first.deepens depth) (rest.deep.deepens depth);
}

-- a file more
one_more : {A B : Type 0} {p : ℕ → Parser A} {q : ℕ → Parser B} {S : ℕ → A → List Lexeme → Type 0} {T : ℕ → B → List Lexeme → Type 0} {test other : Lexeme → Bool}
    → ((t : Lexeme) → Is ends_file t → test t ≡ false) → Files A p S test → Files B q T other
    → Files (A × B) (λ depth. p depth & q depth) (λ depth. Both A B (S depth) (T depth)) other
one_more {A = A} {B = B} {S = S} {T = T} differs first rest = record {
  deep = joined_files differs first.deep rest;
  starts = λ depth. starts_both A B ends_file (S depth) (T depth) (first.starts depth);
}

-- ---- the files of rules

requests_file : Files RequestsText prr.requests SpellsRequests request
requests_file = record { deep = prr_files.files; starts = λ depth. file_starts (codes "PRR") (Spot × BodyTree) request (prr.request_entry depth) (SpellsRequest depth) }

rules_file : Files RulesText pfm.rules SpellsRules points
rules_file = record { deep = pfm_files.files; starts = λ depth. file_starts (codes "PFM") (Spot × Spot × CondTree) points (pfm.rule_entry depth) (SpellsRule depth) }

statements_file : Files StatementsText fop.statements SpellsStatements any_identity
statements_file = record { deep = fop_files.files; starts = λ depth. file_starts (codes "FOP") StatementText any_identity (fop.statement_entry depth) (SpellsStatement depth) }

outputs_file : Files OutputsText opt.outputs SpellsOutputs any_number
outputs_file = record { deep = opt_files.files; starts = λ depth. file_starts (codes "OPT") OutputText any_number (opt.output_entry depth) (SpellsOutput depth) }

inputs_file : Files InputsText ipt.inputs SpellsInputs any_number
inputs_file = record { deep = ipt_files.files; starts = λ depth. file_starts (codes "IPT") (Spot × BodyTree) any_number (ipt.input_entry depth) (SpellsInput depth) }

-- `file` is no number
no_number : (t : Lexeme) → Is ends_file t → any_number t ≡ false
no_number t e = word_not_number (codes "file") t e

-- ---- the source

abbrev Parts : Type 0
Parts = IdentityText × (RequestsText × (RulesText × (StatementsText × (OutputsText × InputsText))))

abbrev tree_of : Parts → SourceText
tree_of x = record { identities = x.0; requests = x.1.0; free = x.1.1.0; statements = x.1.1.1.0; outputs = x.1.1.1.1.0; inputs = x.1.1.1.1.1 }

abbrev SourceForm : ℕ → Parts → List Lexeme → Type 0
SourceForm depth =
    Both _ _ SpellsIdentities
    (Both _ _ (SpellsRequests depth)
    (Both _ _ (SpellsRules depth)
    (Both _ _ (SpellsStatements depth)
    (Both _ _ (SpellsOutputs depth) (SpellsInputs depth)))))

to_source : (depth : ℕ) (x : Parts) (u : List Lexeme) → SourceForm depth x u → SpellsSource depth (tree_of x) u
to_source depth x u (both a b v w i (both c d p q r (both e f s t m (both g h k l n (both o z y j aa bb))))) =
    the_source (tree_of (a, (c, (e, (g, (o, z)))))) v p s k y j i r m n aa bb

from_source : (depth : ℕ) (y : SourceText) (u : List Lexeme) → SpellsSource depth y u → (x : Parts) × (y ≡ tree_of x) × SourceForm depth x u
from_source depth y u (the_source tree v p s k o j i r m n a b) = (
  (tree.identities, (tree.requests, (tree.free, (tree.statements, (tree.outputs, tree.inputs))))),
  refl,
  both tree.identities _ v _ i (both tree.requests _ p _ r (both tree.free _ s _ m (both tree.statements _ k _ n (both tree.outputs tree.inputs o j a b)))),
)

identities_deep : Deep IdentityText (λ depth. files.identities) (λ depth. SpellsIdentities) (Lacks any_number) (Without any_number Always)
identities_deep = record { good = λ depth. good_identities; deepens = λ depth. deep_identities }

pub sources : Deep SourceText spec.source SpellsSource (Lacks any_number) (Without any_number Always)
unfolding spec.source
sources =
    let rules =
    one_more (no_identity (codes "Q")) requests_file
    (one_more (no_identity (codes "P")) rules_file (one_more (no_identity (codes "PSTRUL")) statements_file (one_more no_number outputs_file inputs_file))) in
    let parts = joined_files no_number identities_deep rules in
    record {
      good = λ depth. good_mapped Parts SourceText tree_of _ (SourceForm depth) (SpellsSource depth) (Lacks any_number) (Without any_number Always) (to_source depth) (from_source depth) (parts.good depth);
      deepens = λ depth. deep_mapped tree_of (parts.deepens depth);
    }

-- the source ends before `file` and at the end of the text
pub source_follows : Follows (Without any_number Always) ends_file
source_follows = file_follows
