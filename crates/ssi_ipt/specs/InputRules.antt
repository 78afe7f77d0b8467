-- That the reader of an entry of IPT is one of its rule of the grammar. No clause cites this file: the traits of readers ask
-- for these laws, and the kit takes the proof of a law from specs.
use Rattle.std.proofs.Common.{◌≡◌, ℕ, codes, List, [], ◌∷◌, ◌++◌, refl}
use Rattle.ssi_lexer.specs.declared.token.Token.{Token}
use Rattle.ssi_lexer.specs.declared.token.TokenKind.TheVariants as k
use Rattle.ssi_lexer.specs.Lexemes.{Lexeme, token_of}
use Rattle.ssi_lexer.specs.TokenTests.{dot, comma}
use Rattle.ssi_lexer.specs.Languages.{One, one}
use Rattle.ssi_lexer.specs.Parsers.{◌&◌, tok}
use Rattle.ssi_lexer.specs.Laws.{StartsWith, Always, Good}
use Rattle.ssi_lexer.proofs.Joining.{Both, both, good_mapped}
use Rattle.ssi_lexer.proofs.Sequences.{good_then, joined_by}
use Rattle.ssi_lexer.proofs.Starting.{some_token, dot_not_comma, starts_one, good_dot}
use Rattle.ssi_terms.specs.declared.tree.Spot.{Spot}
use Rattle.ssi_terms.specs.declared.tree.BodyTree.{BodyTree}
use Rattle.ssi_terms.specs.Tests.{spot_of, any_number}
use Rattle.ssi_terms.specs.Identities.{SpotOf, spot_is}
use Rattle.ssi_terms.specs.Grammar.{SpellsBody}
use Rattle.ssi_terms.specs.Read.{spot, body}
use Rattle.ssi_terms.specs.SpotRules.{good_spot}
use Rattle.ssi_terms.proofs.BodyRules.{good_body}
use Rattle.ssi_ipt.specs.Inputs.{SpellsInput, an_input}
use Rattle.ssi_ipt.specs.ReadInputs as spec

module _ (depth : ℕ) where
  abbrev InputForm : Spot × (BodyTree × Token) → List Lexeme → Type 0
  InputForm = Both Spot (BodyTree × Token) (SpotOf any_number) (Both BodyTree Token (SpellsBody depth) (One dot))

  abbrev input_of : Spot × (BodyTree × Token) → Spot × BodyTree
  input_of x = (x.0, x.1.0)

  to_input : (x : Spot × (BodyTree × Token)) (u : List Lexeme) → InputForm x u → SpellsInput depth (input_of x) u
  to_input x u (both a b v w (spot_is n e) (both body t z y s (one d h))) = an_input n d body z e s h

  from_input : (y : Spot × BodyTree) (u : List Lexeme) → SpellsInput depth y u → (x : Spot × (BodyTree × Token)) × (y ≡ input_of x) × InputForm x u
  from_input y u (an_input n d body v e s h) = ((spot_of n, (body, token_of d)), refl, both (spot_of n) (body, token_of d) (n ∷ []) (v ++ (d ∷ [])) (spot_is n e) (both body (token_of d) v (d ∷ []) s (one d h)))

  pub good_input : Good (Spot × BodyTree) (spec.input_entry depth) (SpellsInput depth) Always Always
  unfolding spec.input_entry
  good_input =
      good_mapped (Spot × (BodyTree × Token)) (Spot × BodyTree) input_of (spot any_number & (body depth depth & tok dot)) InputForm (SpellsInput depth) Always Always to_input from_input
      (good_then (good_spot any_number (some_token k.Number (codes "0")) refl) (joined_by comma dot (starts_one dot) dot_not_comma (good_body depth depth) good_dot))

  pub input_starts : (x : Spot × BodyTree) (u : List Lexeme) → SpellsInput depth x u → StartsWith any_number u
  input_starts x u (an_input n d body v e s h) = record { first = n; others = v ++ (d ∷ []); parts = refl; passes = e }
