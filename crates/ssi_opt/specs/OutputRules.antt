-- That the reader of an entry of OPT is one of its rule of the grammar. No clause cites this file: the traits of readers ask
-- for these laws, and the kit takes the proof of a law from specs.
use Rattle.std.proofs.Common.{◌≡◌, ℕ, Bool, true, codes, List, [], ◌∷◌, ◌++◌, refl}
use Rattle.ssi_lexer.specs.declared.token.Token.{Token}
use Rattle.ssi_lexer.specs.declared.token.TokenKind.TheVariants as k
use Rattle.ssi_lexer.specs.Lexemes.{Lexeme, token_of}
use Rattle.ssi_lexer.specs.TokenTests.{Is, word, dot, comma, sees}
use Rattle.ssi_lexer.specs.Languages.{One, one, ListedBy}
use Rattle.ssi_lexer.specs.Parsers.{◌&◌, tok, separated_by}
use Rattle.ssi_lexer.specs.Laws.{StartsWith, Lacks, Always, Good}
use Rattle.ssi_lexer.proofs.Joining.{Both, both, good_both, good_mapped}
use Rattle.ssi_lexer.proofs.Choosing.{Without}
use Rattle.ssi_lexer.proofs.Listing.{good_separated_by}
use Rattle.ssi_lexer.proofs.Sequences.{good_then}
use Rattle.ssi_lexer.proofs.Starting.{some_token, some_word, word_not_comma, dot_not_comma, dot_not_word, good_dot}
use Rattle.ssi_terms.specs.declared.tree.Spot.{Spot}
use Rattle.ssi_terms.specs.declared.tree.CondTree.{CondTree}
use Rattle.ssi_terms.specs.Tests.{spot_of, any_number}
use Rattle.ssi_terms.specs.Identities.{SpotOf, spot_is}
use Rattle.ssi_terms.specs.Grammar.{SpellsCond}
use Rattle.ssi_terms.specs.Read.{spot, cond}
use Rattle.ssi_terms.specs.SpotRules.{good_spot, good_word}
use Rattle.ssi_terms.proofs.CondRules.{ListEnds, good_cond}
use Rattle.ssi_opt.specs.Outputs.{OutputText, SpellsBit, a_bit, SpellsOutput, an_output}
use Rattle.ssi_opt.specs.ReadOutputs as spec

abbrev pub is_bit : Lexeme → Bool
is_bit = word (codes "bit")

abbrev is_if : Lexeme → Bool
is_if = word (codes "if")

-- `bit`, for a sample
abbrev pub some_bit : Lexeme
some_bit = some_token k.Word (codes "bit")

pub some_bit_is : Is is_bit some_bit
some_bit_is = some_word (codes "bit")

-- a condition ends before the next `bit`
pub bit_meets : (ts : List Lexeme) → sees is_bit ts ≡ true → ListEnds ts
bit_meets [] e = absurd cc
bit_meets (t ∷ ts) e = record { lacks = word_not_comma (codes "bit") t e; too = tt }

good_number : Good Spot (spot any_number) (SpotOf any_number) Always Always
good_number = good_spot any_number (some_token k.Number (codes "0")) refl

abbrev Bits : Type 0
Bits = List (Spot × CondTree)

module _ (depth : ℕ) where
  -- ---- a bit

  abbrev BitForm : Spot × (Token × CondTree) → List Lexeme → Type 0
  BitForm = Both Spot (Token × CondTree) (SpotOf any_number) (Both Token CondTree (One is_if) (SpellsCond depth))

  abbrev bit_of : Spot × (Token × CondTree) → Spot × CondTree
  bit_of x = (x.0, x.1.1)

  to_bit : (x : Spot × (Token × CondTree)) (u : List Lexeme) → BitForm x u → SpellsBit depth (bit_of x) u
  to_bit x u (both a b v w (spot_is n e) (both t cond y z (one i h) s)) = a_bit n i cond z e h s

  from_bit : (y : Spot × CondTree) (u : List Lexeme) → SpellsBit depth y u → (x : Spot × (Token × CondTree)) × (y ≡ bit_of x) × BitForm x u
  from_bit y u (a_bit n i cond v e h s) = ((spot_of n, (token_of i, cond)), refl, both (spot_of n) _ (n ∷ []) _ (spot_is n e) (both (token_of i) cond (i ∷ []) v (one i h) s))

  pub good_bit : Good (Spot × CondTree) (spec.output_bit depth) (SpellsBit depth) (Lacks comma) ListEnds
  unfolding spec.output_bit
  good_bit =
      good_mapped (Spot × (Token × CondTree)) (Spot × CondTree) bit_of (spot any_number & (tok is_if & cond depth)) BitForm (SpellsBit depth) (Lacks comma) ListEnds to_bit from_bit
      (good_then good_number (good_then (good_word (codes "if")) (good_cond depth)))

  -- ---- an entry

  abbrev BitsForm : Bits → List Lexeme → Type 0
  BitsForm = ListedBy is_bit (Spot × CondTree) (SpellsBit depth)

  abbrev OutputParts : Type 0
  OutputParts = Spot × (Token × (Bits × Token))

  abbrev FromBits : Bits × Token → List Lexeme → Type 0
  FromBits = Both Bits Token BitsForm (One dot)

  abbrev OutputForm : OutputParts → List Lexeme → Type 0
  OutputForm = Both Spot (Token × (Bits × Token)) (SpotOf any_number) (Both Token (Bits × Token) (One is_bit) FromBits)

  abbrev output_of : OutputParts → OutputText
  output_of x = record { address = x.0; bits = x.1.1.0 }

  to_output : (x : OutputParts) (u : List Lexeme) → OutputForm x u → SpellsOutput depth (output_of x) u
  to_output x u (both a b v w (spot_is n e) (both t c y z (one m h) (both bits p aa ab l (one d j)))) = an_output n m d bits aa e h l j

  from_output : (y : OutputText) (u : List Lexeme) → SpellsOutput depth y u → (x : OutputParts) × (y ≡ output_of x) × OutputForm x u
  from_output y u (an_output n m d bits v e h l j) = (
    (spot_of n, (token_of m, (bits, token_of d))),
    refl,
    both (spot_of n) _ (n ∷ []) _ (spot_is n e) (both (token_of m) _ (m ∷ []) _ (one m h) (both bits (token_of d) v (d ∷ []) l (one d j))),
  )

  -- the bits end before the dot
  dot_ends : (y : Token) (v rest : List Lexeme) → One dot y v → Always rest → Without is_bit ListEnds (v ++ rest)
  dot_ends y v rest (one t e) h = record { lacks = dot_not_word (codes "bit") t e; too = record { lacks = dot_not_comma t e; too = tt } }

  good_from_bits : Good (Bits × Token) (separated_by is_bit (spec.output_bit depth) & tok dot) FromBits Always Always
  good_from_bits =
      good_both Bits Token (separated_by is_bit (spec.output_bit depth)) (tok dot) BitsForm (One dot) (Lacks is_bit) (Without is_bit ListEnds) Always Always dot_ends
      (good_separated_by is_bit some_bit some_bit_is (Spot × CondTree) (spec.output_bit depth) (SpellsBit depth) (Lacks comma) ListEnds bit_meets good_bit) good_dot

  pub good_output : Good OutputText (spec.output_entry depth) (SpellsOutput depth) Always Always
  unfolding spec.output_entry
  good_output =
      good_mapped OutputParts OutputText output_of (spot any_number & (tok is_bit & (separated_by is_bit (spec.output_bit depth) & tok dot))) OutputForm (SpellsOutput depth) Always Always to_output from_output
      (good_then good_number (good_then (good_word (codes "bit")) good_from_bits))

  pub output_starts : (x : OutputText) (u : List Lexeme) → SpellsOutput depth x u → StartsWith any_number u
  output_starts x u (an_output n m d bits v e h l j) = record { first = n; others = m ∷ (v ++ (d ∷ [])); parts = refl; passes = e }
