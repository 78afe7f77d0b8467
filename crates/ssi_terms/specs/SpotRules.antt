-- That each reader of one token, as its place, is one of its rule of the grammar. No clause cites this file: the traits of
-- readers ask for these laws, and the kit takes the proof of a law from specs.
use Rattle.std.proofs.Common.{◌≡◌, ℕ, Bool, codes, List, [], ◌∷◌, refl}
use Rattle.ssi_lexer.specs.declared.token.Token.{Token}
use Rattle.ssi_lexer.specs.declared.token.TokenKind.TheVariants as k
use Rattle.ssi_lexer.specs.Lexemes.{Lexeme, token_of}
use Rattle.ssi_lexer.specs.TokenTests.{Is, word}
use Rattle.ssi_lexer.specs.Languages.{One, one}
use Rattle.ssi_lexer.specs.Parsers.{◌&◌, tok, mapped}
use Rattle.ssi_lexer.specs.Laws.{StartsWith, Always, Good, Deepens}
use Rattle.ssi_lexer.proofs.OneToken.{good_tok}
use Rattle.ssi_lexer.proofs.Joining.{Both, both, good_mapped}
use Rattle.ssi_lexer.proofs.Sequences.{good_then}
use Rattle.ssi_lexer.proofs.Deepening.{deep_mapped, deep_tok}
use Rattle.ssi_lexer.proofs.Starting.{some_token, some_word}
use Rattle.ssi_terms.specs.declared.tree.Spot.{Spot}
use Rattle.ssi_terms.specs.Tests.{spot_at, spot_of, any_identity, rule_word}
use Rattle.ssi_terms.specs.Identities.{SpotOf, spot_is}
use Rattle.ssi_terms.specs.Read as spec

-- ---- one token

module _ (test : Lexeme → Bool) (some : Lexeme) (some_is : Is test some) where
  to_spot : (x : Token) (u : List Lexeme) → One test x u → SpotOf test (spot_at x) u
  to_spot x u (one t e) = spot_is t e

  from_spot : (y : Spot) (u : List Lexeme) → SpotOf test y u → (x : Token) × (y ≡ spot_at x) × One test x u
  from_spot y u (spot_is t e) = (token_of t, refl, one t e)

  pub good_spot : Good Spot (spec.spot test) (SpotOf test) Always Always
  unfolding spec.spot
  good_spot = good_mapped Token Spot spot_at (tok test) (One test) (SpotOf test) Always Always to_spot from_spot (good_tok test some some_is)

pub deep_spot : (test : Lexeme → Bool) → Deepens Spot (spec.spot test) (spec.spot test)
unfolding spec.spot
deep_spot test = deep_mapped spot_at (deep_tok test)

pub starts_spot : (test : Lexeme → Bool) (x : Spot) (u : List Lexeme) → SpotOf test x u → StartsWith test u
starts_spot test x u (spot_is t e) = record { first = t; others = []; parts = refl; passes = e }

pub good_word : (letters : List ℕ) → Good Token (tok (word letters)) (One (word letters)) Always Always
good_word letters = good_tok (word letters) (some_token k.Word letters) (some_word letters)

-- ---- two tokens

-- two tokens, as their places
pub data TwoSpots (first second : Lexeme → Bool) (B : Type 0) (f : Spot → Spot → B) : B → List Lexeme → Type 0 where
  two_spots : (n w : Lexeme) → Is first n → Is second w → TwoSpots first second B f (f (spot_of n) (spot_of w)) (n ∷ w ∷ [])

module _ (first second : Lexeme → Bool) (B : Type 0) (f : Spot → Spot → B) where
  abbrev Pair : Spot × Spot → List Lexeme → Type 0
  Pair = Both Spot Spot (SpotOf first) (SpotOf second)

  to_two : (x : Spot × Spot) (u : List Lexeme) → Pair x u → TwoSpots first second B f (f x.0 x.1) u
  to_two x u (both a b v w (spot_is n e) (spot_is m h)) = two_spots n m e h

  from_two : (y : B) (u : List Lexeme) → TwoSpots first second B f y u → (x : Spot × Spot) × (y ≡ f x.0 x.1) × Pair x u
  from_two y u (two_spots n m e h) = ((spot_of n, spot_of m), refl, both (spot_of n) (spot_of m) (n ∷ []) (m ∷ []) (spot_is n e) (spot_is m h))

  pub good_two : Good Spot (spec.spot first) (SpotOf first) Always Always → Good Spot (spec.spot second) (SpotOf second) Always Always
      → Good B (mapped (λ x. f x.0 x.1) (spec.spot first & spec.spot second)) (TwoSpots first second B f) Always Always
  good_two g h = good_mapped (Spot × Spot) B (λ x. f x.0 x.1) (spec.spot first & spec.spot second) Pair (TwoSpots first second B f) Always Always to_two from_two (good_then g h)

  pub starts_two : (x : B) (u : List Lexeme) → TwoSpots first second B f x u → StartsWith first u
  starts_two x u (two_spots n w e h) = record { first = n; others = w ∷ []; parts = refl; passes = e }

pub good_any_identity : Good Spot (spec.spot any_identity) (SpotOf any_identity) Always Always
good_any_identity = good_spot any_identity (some_token k.Name (codes "L1")) refl

pub good_rule_word : Good Spot (spec.spot rule_word) (SpotOf rule_word) Always Always
good_rule_word = good_spot rule_word (some_token k.Word (codes "s")) refl
