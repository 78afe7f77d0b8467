-- That the reader of an entry of FOP is one of its rule of the grammar. No clause cites this file: the traits of readers ask
-- for these laws, and the kit takes the proof of a law from specs.
use Rattle.std.proofs.Common.{◌≡◌, ℕ, Bool, codes, List, [], ◌∷◌, ◌++◌, refl, ap}
use Rattle.ssi_lexer.specs.declared.token.Token.{Token}
use Rattle.ssi_lexer.specs.Lexemes.{Lexeme, token_of}
use Rattle.ssi_lexer.specs.TokenTests.{Is, word, dot, comma}
use Rattle.ssi_lexer.specs.Languages.{One, one, Listed, last, and_more}
use Rattle.ssi_lexer.specs.Parsers.{◌&◌, tok, separated}
use Rattle.ssi_lexer.specs.Laws.{StartsWith, Always, Good}
use Rattle.ssi_lexer.proofs.Joining.{Both, both, good_mapped}
use Rattle.ssi_lexer.proofs.Listing.{good_separated}
use Rattle.ssi_lexer.proofs.Sequences.{good_then, joined_by}
use Rattle.ssi_lexer.proofs.Starting.{dot_not_comma, word_not_comma, starts_one, starts_both, good_dot}
use Rattle.ssi_terms.specs.declared.tree.CommandTree.{CommandTree}
use Rattle.ssi_terms.specs.declared.tree.CondTree.{CondTree}
use Rattle.ssi_terms.specs.Tests.{any_identity}
use Rattle.ssi_terms.specs.Grammar.{SpellsCommand, SpellsCond}
use Rattle.ssi_terms.specs.Read.{command, cond}
use Rattle.ssi_terms.specs.SpotRules.{good_word}
use Rattle.ssi_terms.specs.CommandRules.{good_command, command_starts}
use Rattle.ssi_terms.proofs.CondRules.{good_cond}
use Rattle.ssi_fop.specs.Statements.{StatementText, SpellsStatement, a_statement}
use Rattle.ssi_fop.specs.ReadStatements as spec

abbrev StatementParts : Type 0
StatementParts = List CommandTree × (Token × (CondTree × Token))

abbrev is_if : Lexeme → Bool
is_if = word (codes "if")

commands_start : (x : List CommandTree) (u : List Lexeme) → Listed CommandTree SpellsCommand x u → StartsWith any_identity u
commands_start xs u (last x v s) = command_starts x v s
commands_start xs u (and_more x ys m v w s e l) =
    let h = command_starts x v s in
    record { first = h.first; others = h.others ++ (m ∷ w); parts = ap (λ (ts : List Lexeme). ts ++ (m ∷ w)) h.parts; passes = h.passes }

module _ (depth : ℕ) where
  abbrev Ended : CondTree × Token → List Lexeme → Type 0
  Ended = Both CondTree Token (SpellsCond depth) (One dot)

  abbrev FromIf : Token × (CondTree × Token) → List Lexeme → Type 0
  FromIf = Both Token (CondTree × Token) (One is_if) Ended

  abbrev StatementForm : StatementParts → List Lexeme → Type 0
  StatementForm = Both (List CommandTree) (Token × (CondTree × Token)) (Listed CommandTree SpellsCommand) FromIf

  abbrev statement_of : StatementParts → StatementText
  statement_of x = record { commands = x.0; guard = x.1.1.0 }

  to_statement : (x : StatementParts) (u : List Lexeme) → StatementForm x u → SpellsStatement depth (statement_of x) u
  to_statement x u (both commands b v w l (both o q r t (one i h) (both guard p aa ab s (one d j)))) = a_statement i d commands guard v aa l h s j

  from_statement : (y : StatementText) (u : List Lexeme) → SpellsStatement depth y u → (x : StatementParts) × (y ≡ statement_of x) × StatementForm x u
  from_statement y u (a_statement i d commands guard v w l h s j) = (
    (commands, (token_of i, (guard, token_of d))),
    refl,
    both commands _ v _ l (both (token_of i) _ (i ∷ []) _ (one i h) (both guard (token_of d) w (d ∷ []) s (one d j))),
  )

  pub good_statement : Good StatementText (spec.statement_entry depth) (SpellsStatement depth) Always Always
  unfolding spec.statement_entry
  good_statement =
      good_mapped StatementParts StatementText statement_of (separated command & (tok is_if & (cond depth & tok dot))) StatementForm (SpellsStatement depth) Always Always to_statement from_statement
      (joined_by comma is_if (starts_both Token (CondTree × Token) is_if (One is_if) Ended (starts_one is_if)) (λ t e. word_not_comma (codes "if") t e)
      (good_separated CommandTree command SpellsCommand Always Always (λ ts e. tt) good_command)
      (good_then (good_word (codes "if")) (joined_by comma dot (starts_one dot) dot_not_comma (good_cond depth) good_dot)))

  pub statement_starts : (x : StatementText) (u : List Lexeme) → SpellsStatement depth x u → StartsWith any_identity u
  statement_starts x u (a_statement i d commands guard v w l h s j) =
      let b = commands_start commands v l in
      record { first = b.first; others = b.others ++ (i ∷ (w ++ (d ∷ []))); parts = ap (λ (ts : List Lexeme). ts ++ (i ∷ (w ++ (d ∷ [])))) b.parts; passes = b.passes }
