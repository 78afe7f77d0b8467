-- That the reader of an entry of PRR is one of its rule of the grammar. No clause cites this file: the traits of readers ask
-- for these laws, and the kit takes the proof of a law from specs.
use Rattle.std.proofs.Common.{◌≡◌, ℕ, codes, List, [], ◌∷◌, ◌++◌, refl}
use Rattle.ssi_lexer.specs.declared.token.Token.{Token}
use Rattle.ssi_lexer.specs.declared.token.TokenKind.TheVariants as k
use Rattle.ssi_lexer.specs.Lexemes.{Lexeme, token_of}
use Rattle.ssi_lexer.specs.TokenTests.{Is, dot, comma}
use Rattle.ssi_lexer.specs.Languages.{One, one}
use Rattle.ssi_lexer.specs.Parsers.{◌&◌, tok}
use Rattle.ssi_lexer.specs.Laws.{StartsWith, Always, Good, Deepens, Deep}
use Rattle.ssi_lexer.proofs.Joining.{Both, both, good_mapped}
use Rattle.ssi_lexer.proofs.Sequences.{good_then, joined_by}
use Rattle.ssi_lexer.proofs.Deepening.{deep_mapped, deep_both, deep_tok}
use Rattle.ssi_lexer.proofs.Starting.{some_token, dot_not_comma, starts_one, good_dot}
use Rattle.ssi_terms.specs.declared.tree.Spot.{Spot}
use Rattle.ssi_terms.specs.declared.tree.BodyTree.{BodyTree}
use Rattle.ssi_terms.specs.Tests.{spot_of, request}
use Rattle.ssi_terms.specs.Identities.{SpotOf, spot_is}
use Rattle.ssi_terms.specs.Grammar.{SpellsBody}
use Rattle.ssi_terms.specs.Read.{spot, body}
use Rattle.ssi_terms.specs.SpotRules.{good_spot, deep_spot}
use Rattle.ssi_terms.proofs.BodyRules.{good_body, deep_body}
use Rattle.ssi_prr.specs.Requests.{SpellsRequest, a_request}
use Rattle.ssi_prr.specs.ReadRequests as spec

module _ (depth : ℕ) where
  abbrev RequestText : Spot × (BodyTree × Token) → List Lexeme → Type 0
  RequestText = Both Spot (BodyTree × Token) (SpotOf request) (Both BodyTree Token (SpellsBody depth) (One dot))

  abbrev request_of : Spot × (BodyTree × Token) → Spot × BodyTree
  request_of x = (x.0, x.1.0)

  to_request : (x : Spot × (BodyTree × Token)) (u : List Lexeme) → RequestText x u → SpellsRequest depth (request_of x) u
  to_request x u (both a b v w (spot_is n e) (both body t z y s (one d h))) = a_request n d body z e s h

  from_request : (y : Spot × BodyTree) (u : List Lexeme) → SpellsRequest depth y u → (x : Spot × (BodyTree × Token)) × (y ≡ request_of x) × RequestText x u
  from_request y u (a_request n d body v e s h) = ((spot_of n, (body, token_of d)), refl, both (spot_of n) (body, token_of d) (n ∷ []) (v ++ (d ∷ [])) (spot_is n e) (both body (token_of d) v (d ∷ []) s (one d h)))

  pub good_request : Good (Spot × BodyTree) (spec.request_entry depth) (SpellsRequest depth) Always Always
  unfolding spec.request_entry
  good_request =
      good_mapped (Spot × (BodyTree × Token)) (Spot × BodyTree) request_of (spot request & (body depth depth & tok dot)) RequestText (SpellsRequest depth) Always Always to_request from_request
      (good_then (good_spot request (some_token k.Name (codes "Q1")) refl) (joined_by comma dot (starts_one dot) dot_not_comma (good_body depth depth) good_dot))

  pub request_starts : (x : Spot × BodyTree) (u : List Lexeme) → SpellsRequest depth x u → StartsWith request u
  request_starts x u (a_request n d body v e s h) = record { first = n; others = v ++ (d ∷ []); parts = refl; passes = e }
