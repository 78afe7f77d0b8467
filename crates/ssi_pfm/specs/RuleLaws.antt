-- That the reader of an entry of PFM is one of its rule of the grammar. No clause cites this file: the traits of readers ask
-- for these laws, and the kit takes the proof of a law from specs.
use Rattle.std.proofs.Common.{◌≡◌, ℕ, codes, List, [], ◌∷◌, ◌++◌, refl}
use Rattle.ssi_lexer.specs.declared.token.Token.{Token}
use Rattle.ssi_lexer.specs.declared.token.TokenKind.TheVariants as k
use Rattle.ssi_lexer.specs.Lexemes.{Lexeme, token_of}
use Rattle.ssi_lexer.specs.TokenTests.{Is, word, dot, comma}
use Rattle.ssi_lexer.specs.Languages.{One, one}
use Rattle.ssi_lexer.specs.Parsers.{◌&◌, tok}
use Rattle.ssi_lexer.specs.Laws.{StartsWith, Always, Good}
use Rattle.ssi_lexer.proofs.Joining.{Both, both, good_mapped}
use Rattle.ssi_lexer.proofs.Sequences.{good_then, joined_by}
use Rattle.ssi_lexer.proofs.Starting.{some_token, dot_not_comma, starts_one, good_dot}
use Rattle.ssi_terms.specs.declared.tree.Spot.{Spot}
use Rattle.ssi_terms.specs.declared.tree.CondTree.{CondTree}
use Rattle.ssi_terms.specs.Tests.{spot_of, points, lie_word}
use Rattle.ssi_terms.specs.Identities.{SpotOf, spot_is}
use Rattle.ssi_terms.specs.Grammar.{SpellsCond}
use Rattle.ssi_terms.specs.Read.{spot, cond}
use Rattle.ssi_terms.specs.SpotRules.{good_spot, good_word}
use Rattle.ssi_terms.proofs.CondRules.{good_cond}
use Rattle.ssi_pfm.specs.Rules.{SpellsRule, a_rule}
use Rattle.ssi_pfm.specs.ReadRules as spec

abbrev RuleParts : Type 0
RuleParts = Spot × (Spot × (Token × (CondTree × Token)))

module _ (depth : ℕ) where
  abbrev Ended : CondTree × Token → List Lexeme → Type 0
  Ended = Both CondTree Token (SpellsCond depth) (One dot)

  abbrev FromIf : Token × (CondTree × Token) → List Lexeme → Type 0
  FromIf = Both Token (CondTree × Token) (One (word (codes "if"))) Ended

  abbrev RuleText : RuleParts → List Lexeme → Type 0
  RuleText = Both Spot (Spot × (Token × (CondTree × Token))) (SpotOf points) (Both Spot (Token × (CondTree × Token)) (SpotOf lie_word) FromIf)

  abbrev rule_of : RuleParts → Spot × Spot × CondTree
  rule_of x = (x.0, x.1.0, x.1.1.1.0)

  to_rule : (x : RuleParts) (u : List Lexeme) → RuleText x u → SpellsRule depth (rule_of x) u
  to_rule x u (both a b v w (spot_is n e) (both c f y z (spot_is l g) (both o q r t (one i h) (both cond p aa ab s (one d j))))) = a_rule n l i d cond aa e g h s j

  from_rule : (y : Spot × Spot × CondTree) (u : List Lexeme) → SpellsRule depth y u → (x : RuleParts) × (y ≡ rule_of x) × RuleText x u
  from_rule y u (a_rule n l i d cond v e g h s j) = (
    (spot_of n, (spot_of l, (token_of i, (cond, token_of d)))),
    refl,
    both (spot_of n) _ (n ∷ []) _ (spot_is n e) (both (spot_of l) _ (l ∷ []) _ (spot_is l g) (both (token_of i) _ (i ∷ []) _ (one i h) (both cond (token_of d) v (d ∷ []) s (one d j)))),
  )

  pub good_rule : Good (Spot × Spot × CondTree) (spec.rule_entry depth) (SpellsRule depth) Always Always
  unfolding spec.rule_entry
  good_rule =
      good_mapped RuleParts (Spot × Spot × CondTree) rule_of (spot points & (spot lie_word & (tok (word (codes "if")) & (cond depth & tok dot)))) RuleText (SpellsRule depth) Always Always to_rule from_rule
      (good_then (good_spot points (some_token k.Name (codes "P1")) refl)
      (good_then (good_spot lie_word (some_token k.Word (codes "cn")) refl) (good_then (good_word (codes "if")) (joined_by comma dot (starts_one dot) dot_not_comma (good_cond depth) good_dot))))

  pub rule_starts : (x : Spot × Spot × CondTree) (u : List Lexeme) → SpellsRule depth x u → StartsWith points u
  rule_starts x u (a_rule n l i d cond v e g h s j) = record { first = n; others = l ∷ i ∷ (v ++ (d ∷ [])); parts = refl; passes = e }
