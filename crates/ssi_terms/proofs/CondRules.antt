-- Conditions: the readers read their rules of the grammar, and with a level more they go past what was too deep.
use Rattle.std.proofs.Common.{◌≡◌, ℕ, zero, suc, ◌-◌, ◌<◌, ◌≤◌, Bool, true, false, codes, List, [], ◌∷◌, ◌++◌, length, Ok, Err, refl, ap, arith}
use Rattle.std.specs.Prelude.{not}
use Rattle.ssi_lexer.specs.declared.token.Token.{Token}
use Rattle.ssi_lexer.specs.declared.token.TokenKind.TheVariants as k
use Rattle.ssi_lexer.specs.declared.wanted.Stop.TheVariants as s
use Rattle.ssi_lexer.specs.Lexemes.{Lexeme, token_of}
use Rattle.ssi_lexer.specs.TokenTests.{Is, word, comma, sees}
use Rattle.ssi_lexer.specs.Languages.{One, one, Listed, SeveralBy}
use Rattle.ssi_lexer.specs.Parsers.{Parser, ◌&◌, tok, mapped, either, separated, several_by, too_deep}
use Rattle.ssi_lexer.specs.Laws.{StartsWith, Lacks, Always, tokens_left, Extends, Good, Deepens, Deep}
use Rattle.ssi_lexer.proofs.OneToken.{good_tok}
use Rattle.ssi_lexer.proofs.Joining.{Both, both, good_both, good_mapped, good_as, leaves_no_more}
use Rattle.ssi_lexer.proofs.Sequences.{good_then}
use Rattle.ssi_lexer.proofs.Choosing.{Without, OneOf, the_one, the_other, good_either, good_either_stop}
use Rattle.ssi_lexer.proofs.Listing.{good_separated, good_several_by}
use Rattle.ssi_lexer.proofs.Deepening.{extends_mapped, deep_mapped, deep_both, deep_tok, deep_either, deep_either_seen, deep_separated, deep_several_by, past_opener}
use Rattle.ssi_lexer.proofs.Spellings.{Follows}
use Rattle.ssi_lexer.proofs.Starting.{some_token, some_word, one_kind, identity_not_kind, kind_not_word, word_not_comma, lacks_after}
use Rattle.ssi_terms.specs.declared.tree.Spot.{Spot}
use Rattle.ssi_terms.specs.declared.tree.ItemTree.{ItemTree}
use Rattle.ssi_terms.specs.declared.tree.ItemTree.TheVariants as i
use Rattle.ssi_terms.specs.declared.tree.CondTree.{CondTree}
use Rattle.ssi_terms.specs.Tests.{spot_of, any_identity, any_number, rule_word, bit_word, opens, closes, ends_list}
use Rattle.ssi_terms.specs.Identities.{SpotOf, spot_is}
use Rattle.ssi_terms.specs.Grammar.{ItemOf, a_test, a_bit, a_group, CondOf, GroupOf, the_alternatives, SpellsGroup, SpellsCond}
use Rattle.ssi_terms.specs.SpotRules.{good_spot, deep_spot, TwoSpots, two_spots, good_two, starts_two, good_any_identity, good_rule_word}
use Rattle.ssi_terms.specs.Read as spec

-- ---- tests and bits

abbrev TestText : ItemTree → List Lexeme → Type 0
TestText = TwoSpots any_identity rule_word ItemTree i.Test

abbrev BitText : ItemTree → List Lexeme → Type 0
BitText = TwoSpots any_number bit_word ItemTree i.Bit

good_test : Good ItemTree spec.test TestText Always Always
unfolding spec.test
good_test = good_two any_identity rule_word ItemTree i.Test good_any_identity good_rule_word

good_bit : Good ItemTree spec.bit BitText Always Always
unfolding spec.bit
good_bit = good_two any_number bit_word ItemTree i.Bit (good_spot any_number (some_token k.Number (codes "0")) refl) (good_spot bit_word (some_token k.Word (codes "h")) refl)

-- an item that is no group
abbrev PlainText : ItemTree → List Lexeme → Type 0
PlainText = OneOf ItemTree BitText TestText

test_no_number : (x : ItemTree) (u rest : List Lexeme) → TestText x u → Always rest → Lacks any_number (u ++ rest)
test_no_number x u rest t h = lacks_after any_identity any_number u rest (starts_two any_identity rule_word ItemTree i.Test x u t) (λ m e. identity_not_kind k.Number (codes "PSTRUL") m refl e)

good_plain : Good ItemTree (either any_number spec.bit spec.test) PlainText Always Always
good_plain = good_either ItemTree any_number spec.bit spec.test BitText TestText Always Always (starts_two any_number bit_word ItemTree i.Bit) test_no_number good_bit good_test

plain_no_group : (x : ItemTree) (u rest : List Lexeme) → PlainText x u → Always rest → Lacks opens (u ++ rest)
plain_no_group x u rest (the_one y v t) h = lacks_after any_number opens u rest (starts_two any_number bit_word ItemTree i.Bit x u t) (λ m e. one_kind m.kind k.Number k.Open refl e)
plain_no_group x u rest (the_other y v t) h = lacks_after any_identity opens u rest (starts_two any_identity rule_word ItemTree i.Test x u t) (λ m e. identity_not_kind k.Open (codes "PSTRUL") m refl e)

deep_plain : Deepens ItemTree (either any_number spec.bit spec.test) (either any_number spec.bit spec.test)
unfolding spec.bit spec.test
deep_plain = deep_either any_number (deep_mapped (λ x. i.Bit x.0 x.1) (deep_both (deep_spot any_number) (deep_spot bit_word))) (deep_mapped (λ x. i.Test x.0 x.1) (deep_both (deep_spot any_identity) (deep_spot rule_word)))

-- ---- items

plain_item : (G : List CondTree → List Lexeme → Type 0) (x : ItemTree) (u : List Lexeme) → PlainText x u → ItemOf G x u
plain_item G x u (the_one y v (two_spots n w e h)) = a_bit n w e h
plain_item G x u (the_other y v (two_spots n w e h)) = a_test n w e h

module _ (g : Parser (List CondTree)) (G : List CondTree → List Lexeme → Type 0) where
  data GroupItem : ItemTree → List Lexeme → Type 0 where
    the_group : (conds : List CondTree) (u : List Lexeme) → G conds u → GroupItem (i.Any conds) u

  from_group_item : (y : ItemTree) (u : List Lexeme) → GroupItem y u → (x : List CondTree) × (y ≡ i.Any x) × G x u
  from_group_item y u (the_group conds v h) = (conds, refl, h)

  to_item : (x : ItemTree) (u : List Lexeme) → OneOf ItemTree GroupItem PlainText x u → ItemOf G x u
  to_item x u (the_one y v (the_group conds w h)) = a_group conds w h
  to_item x u (the_other y v h) = plain_item G y v h

  from_item : (x : ItemTree) (u : List Lexeme) → ItemOf G x u → OneOf ItemTree GroupItem PlainText x u
  from_item x u (a_test n w e h) = the_other _ _ (the_other _ _ (two_spots n w e h))
  from_item x u (a_bit n w e h) = the_other _ _ (the_one _ _ (two_spots n w e h))
  from_item x u (a_group conds v h) = the_one _ _ (the_group conds v h)

  group_item_starts : ((x : List CondTree) (u : List Lexeme) → G x u → StartsWith opens u) → (x : ItemTree) (u : List Lexeme) → GroupItem x u → StartsWith opens u
  group_item_starts starts x u (the_group conds v h) = starts conds v h

  good_item_by : Good (List CondTree) g G Always Always → ((x : List CondTree) (u : List Lexeme) → G x u → StartsWith opens u) → Good ItemTree (spec.item_by g) (ItemOf G) Always Always
  unfolding spec.item_by
  good_item_by good starts =
      good_as ItemTree (either opens (mapped i.Any g) (either any_number spec.bit spec.test)) (OneOf ItemTree GroupItem PlainText) (ItemOf G) Always Always Always Always to_item from_item (λ rest k. k) (λ rest k. k)
      (good_either ItemTree opens (mapped i.Any g) (either any_number spec.bit spec.test) GroupItem PlainText Always Always (group_item_starts starts) plain_no_group
      (good_mapped (List CondTree) ItemTree i.Any g G GroupItem Always Always (λ x u h. the_group x u h) from_group_item good) good_plain)

-- where no group may be opened
no_group : (ts : List Lexeme) → mapped i.Any too_deep ts ≡ Err (s.TooDeep, ts)
unfolding too_deep
no_group ts = refl

from_plain_item : (x : ItemTree) (u : List Lexeme) → ItemOf (SpellsGroup zero) x u → PlainText x u
from_plain_item x u (a_test n w e h) = the_other _ _ (two_spots n w e h)
from_plain_item x u (a_bit n w e h) = the_one _ _ (two_spots n w e h)
from_plain_item x u (a_group conds v h) = absurd h

good_item_without : Good ItemTree (spec.item_by too_deep) (ItemOf (SpellsGroup zero)) Always Always
unfolding spec.item_by
good_item_without =
    good_as ItemTree (either opens (mapped i.Any too_deep) (either any_number spec.bit spec.test)) PlainText (ItemOf (SpellsGroup zero)) Always Always Always Always (plain_item (SpellsGroup zero)) from_plain_item (λ rest k. k) (λ rest k. k)
    (good_either_stop ItemTree opens s.TooDeep (mapped i.Any too_deep) (either any_number spec.bit spec.test) PlainText Always Always no_group plain_no_group good_plain)

-- ---- conditions and groups

-- a list ends where no comma comes
abbrev pub ListEnds : List Lexeme → Type 0
ListEnds = Without comma Always

good_cond_by : (g : Parser (List CondTree)) (G : List CondTree → List Lexeme → Type 0) → Good ItemTree (spec.item_by g) (ItemOf G) Always Always → Good CondTree (spec.cond_by g) (CondOf G) (Lacks comma) ListEnds
unfolding spec.cond_by
good_cond_by g G good =
    good_mapped (List ItemTree) CondTree (λ items. record { items = items }) (separated (spec.item_by g)) (Listed ItemTree (ItemOf G)) (CondOf G) (Lacks comma) ListEnds (λ x u s. s) (λ y u s. (y.items, refl, s))
    (good_separated ItemTree (spec.item_by g) (ItemOf G) Always Always (λ ts e. tt) good)

abbrev pub is_or : Lexeme → Bool
is_or = word (codes "or")

-- `or`, for a sample
pub some_or : Lexeme
some_or = some_token k.Word (codes "or")

pub some_or_is : Is is_or some_or
unfolding some_or
some_or_is = some_word (codes "or")

-- an alternative ends before `or`
pub or_meets : (ts : List Lexeme) → sees is_or ts ≡ true → ListEnds ts
or_meets [] e = absurd cc
or_meets (t ∷ ts) e = record { lacks = word_not_comma (codes "or") t e; too = tt }

module _ (c : Parser CondTree) (C : CondTree → List Lexeme → Type 0) (good : Good CondTree c C (Lacks comma) ListEnds) where
  abbrev Inner : List CondTree × Token → List Lexeme → Type 0
  Inner = Both (List CondTree) Token (SeveralBy is_or CondTree C) (One closes)

  abbrev GroupText : Token × (List CondTree × Token) → List Lexeme → Type 0
  GroupText = Both Token (List CondTree × Token) (One opens) Inner

  to_group : (x : Token × (List CondTree × Token)) (u : List Lexeme) → GroupText x u → GroupOf C x.1.0 u
  to_group x u (both o b v w (one m e) (both conds d y z h (one n f))) = the_alternatives m n conds y e h f

  from_group : (y : List CondTree) (u : List Lexeme) → GroupOf C y u → (x : Token × (List CondTree × Token)) × (y ≡ x.1.0) × GroupText x u
  from_group y u (the_alternatives m n conds v e h f) = (
    (token_of m, (conds, token_of n)),
    refl,
    both (token_of m) (conds, token_of n) (m ∷ []) (v ++ (n ∷ [])) (one m e) (both conds (token_of n) v (n ∷ []) h (one n f)),
  )

  close_ends : (y : Token) (v rest : List Lexeme) → One closes y v → Always rest → Without is_or ListEnds (v ++ rest)
  close_ends y v rest (one t e) h = record { lacks = kind_not_word k.Close (codes "or") t refl e; too = record { lacks = one_kind t.kind k.Close k.Comma refl e; too = tt } }

  good_several : Good (List CondTree) (several_by is_or c) (SeveralBy is_or CondTree C) (Lacks is_or) (Without is_or ListEnds)
  good_several = good_several_by is_or some_or some_or_is CondTree c C (Lacks comma) ListEnds or_meets good

  good_inner : Good (List CondTree × Token) (several_by is_or c & tok closes) Inner Always Always
  good_inner =
      good_both (List CondTree) Token (several_by is_or c) (tok closes) (SeveralBy is_or CondTree C) (One closes) (Lacks is_or) (Without is_or ListEnds) Always Always close_ends good_several (good_tok closes (some_token k.Close []) refl)

  good_group_by : Good (List CondTree) (spec.group_by c) (GroupOf C) Always Always
  unfolding spec.group_by
  good_group_by =
      good_mapped (Token × (List CondTree × Token)) (List CondTree) (λ x. x.1.0) (tok opens & (several_by is_or c & tok closes)) GroupText (GroupOf C) Always Always to_group from_group
      (good_then (good_tok opens (some_token k.Open []) refl) good_inner)

  group_starts : (x : List CondTree) (u : List Lexeme) → GroupOf C x u → StartsWith opens u
  group_starts x u (the_alternatives m n conds v e h f) = record { first = m; others = v ++ (n ∷ []); parts = refl; passes = e }

-- ---- by the levels of groups

pub good_item_at : (groups : ℕ) → Good ItemTree (spec.item_by (spec.group groups)) (ItemOf (SpellsGroup groups)) Always Always
unfolding spec.group
good_item_at zero = good_item_without
good_item_at (suc groups) =
    let cond = good_cond_by (spec.group groups) (SpellsGroup groups) (good_item_at groups) in
    good_item_by (spec.group_by (spec.cond_by (spec.group groups))) (GroupOf (CondOf (SpellsGroup groups)))
    (good_group_by (spec.cond_by (spec.group groups)) (CondOf (SpellsGroup groups)) cond)
    (group_starts (spec.cond_by (spec.group groups)) (CondOf (SpellsGroup groups)) cond)

-- a group, by whether a level may be opened
pub group_none : (groups : ℕ) (ts : List Lexeme) → groups ≡ 0 → spec.group groups ts ≡ Err (s.TooDeep, ts)
unfolding spec.group too_deep
group_none zero ts e = refl
group_none (suc groups) ts e = absurd (omega (arith, e))

pub group_opened : (groups : ℕ) (ts : List Lexeme) → 0 < groups → spec.group groups ts ≡ spec.group_by (spec.cond (groups - 1)) ts
unfolding spec.group spec.cond
group_opened zero ts less = absurd (omega arith)
group_opened (suc groups) ts less = let same : groups ≡ suc groups - 1 = omega arith in ap (λ (n : ℕ). spec.group_by (spec.cond_by (spec.group n)) ts) same

pub good_cond : (groups : ℕ) → Good CondTree (spec.cond groups) (SpellsCond groups) (Lacks comma) ListEnds
unfolding spec.cond
good_cond groups = good_cond_by (spec.group groups) (SpellsGroup groups) (good_item_at groups)

deep_item_by : {g h : Parser (List CondTree)} → Deepens (List CondTree) g h → Deepens ItemTree (spec.item_by g) (spec.item_by h)
unfolding spec.item_by
deep_item_by d = deep_either opens (deep_mapped i.Any d) deep_plain

deep_cond_by : (g h : Parser (List CondTree)) → Deepens ItemTree (spec.item_by g) (spec.item_by h) → Deepens CondTree (spec.cond_by g) (spec.cond_by h)
unfolding spec.cond_by
deep_cond_by g h d = deep_mapped (λ items. record { items = items }) (deep_separated d)

deep_group_by : {c d : Parser CondTree} → Deepens CondTree c d → Deepens (List CondTree) (spec.group_by c) (spec.group_by d)
unfolding spec.group_by
deep_group_by e = deep_mapped (λ x. x.1.0) (deep_both (deep_tok opens) (deep_both (deep_several_by is_or e) (deep_tok closes)))

-- where no group may be opened, a reader of one goes past its parenthesis
module _ (c : Parser CondTree) (C : CondTree → List Lexeme → Type 0) (good : Good CondTree c C (Lacks comma) ListEnds) where
  abbrev rest_of_group : Parser (List CondTree × Token)
  rest_of_group = several_by is_or c & tok closes

  abbrev whole_group : Parser (List CondTree)
  whole_group = mapped (λ x. x.1.0) (tok opens & rest_of_group)

  past_group : (ts : List Lexeme) → sees opens ts ≡ true → Extends (mapped i.Any too_deep ts) (mapped i.Any (spec.group_by c) ts)
  unfolding spec.group_by
  past_group ts seen =
      extends_mapped i.Any (too_deep ts) (whole_group ts) (past_opener opens (λ x. x.1.0) rest_of_group (leaves_no_more (List CondTree × Token) rest_of_group (Inner c C good) Always Always (good_inner c C good)) ts seen)

  group_leaves : (ts : List Lexeme) → length (tokens_left (mapped i.Any (spec.group_by c) ts)) ≤ length ts
  group_leaves =
      leaves_no_more ItemTree (mapped i.Any (spec.group_by c)) (GroupItem (spec.group_by c) (GroupOf C)) Always Always
      (good_mapped (List CondTree) ItemTree i.Any (spec.group_by c) (GroupOf C) (GroupItem (spec.group_by c) (GroupOf C)) Always Always (λ x u h. the_group x u h) (from_group_item (spec.group_by c) (GroupOf C)) (good_group_by c C good))

  first_group : Deepens ItemTree (spec.item_by too_deep) (spec.item_by (spec.group_by c))
  unfolding spec.item_by
  first_group = deep_either_seen opens (mapped i.Any too_deep) (mapped i.Any (spec.group_by c)) past_group group_leaves deep_plain

deep_item_at : (groups : ℕ) → Deepens ItemTree (spec.item_by (spec.group groups)) (spec.item_by (spec.group (suc groups)))
unfolding spec.group
deep_item_at zero = first_group (spec.cond_by too_deep) (CondOf (SpellsGroup zero)) (good_cond_by too_deep (SpellsGroup zero) good_item_without)
deep_item_at (suc groups) = deep_item_by (deep_group_by (deep_cond_by (spec.group groups) (spec.group (suc groups)) (deep_item_at groups)))

-- ---- conditions

pub deep_cond : (groups : ℕ) → Deepens CondTree (spec.cond groups) (spec.cond (suc groups))
unfolding spec.cond
deep_cond groups = deep_cond_by (spec.group groups) (spec.group (suc groups)) (deep_item_at groups)

pub conditions : Deep CondTree spec.cond SpellsCond (Lacks comma) ListEnds
conditions = record { good = good_cond; deepens = deep_cond }

no_comma : (b : Bool) → not b ≡ true → b ≡ false
no_comma true e = absurd cc
no_comma false e = refl

-- a list ends at the end of the text and before a token that is no comma
pub list_follows : Follows ListEnds ends_list
list_follows = record {
  at_end = record { lacks = refl; too = tt };
  before = λ t ts e. record { lacks = no_comma (comma t) e; too = tt };
  some = some_token k.Dot [];
  some_is = refl;
}
