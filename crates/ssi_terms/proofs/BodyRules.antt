-- Commands and bodies: the readers read their rules of the grammar, and with a level more they go past what was too deep.
use Rattle.std.proofs.Common.{◌≡◌, ℕ, zero, suc, ◌-◌, ◌<◌, ◌≤◌, Bool, true, codes, List, [], ◌∷◌, ◌++◌, length, Option, Ok, Err, refl, ap, arith}
use Rattle.ssi_lexer.specs.declared.token.Token.{Token}
use Rattle.ssi_lexer.specs.declared.wanted.Stop.TheVariants as s
use Rattle.ssi_lexer.specs.Lexemes.{Lexeme, token_of}
use Rattle.ssi_lexer.specs.TokenTests.{Is, word, comma, sees}
use Rattle.ssi_lexer.specs.Languages.{One, one, Listed, Optional, absent, present}
use Rattle.ssi_lexer.specs.Parsers.{Parser, ◌&◌, tok, mapped, either, maybe, separated, too_deep}
use Rattle.ssi_lexer.specs.Laws.{StartsWith, Lacks, Always, tokens_left, Extends, Good, Deepens, Deep}
use Rattle.ssi_lexer.proofs.Joining.{Both, both, good_both, good_mapped, good_as, leaves_no_more}
use Rattle.ssi_lexer.proofs.Sequences.{good_then}
use Rattle.ssi_lexer.proofs.Choosing.{Without, OneOf, the_one, the_other, good_maybe, good_either, good_either_stop}
use Rattle.ssi_lexer.proofs.Listing.{good_separated}
use Rattle.ssi_lexer.proofs.Deepening.{deep_mapped, deep_both, deep_tok, deep_either, deep_either_seen, deep_maybe, deep_separated, past_opener}
use Rattle.ssi_lexer.proofs.Starting.{word_not_comma, identity_not_word, other_word, lacks_after, without_after, starts_one, starts_both}
use Rattle.ssi_terms.specs.declared.tree.Spot.{Spot}
use Rattle.ssi_terms.specs.declared.tree.CommandTree.{CommandTree}
use Rattle.ssi_terms.specs.declared.tree.CondTree.{CondTree}
use Rattle.ssi_terms.specs.declared.tree.PartTree.{PartTree}
use Rattle.ssi_terms.specs.declared.tree.PartTree.TheVariants as p
use Rattle.ssi_terms.specs.declared.tree.BodyTree.{BodyTree}
use Rattle.ssi_terms.specs.Tests.{spot_of, any_identity, rule_word}
use Rattle.ssi_terms.specs.Grammar.{SpellsCond, SpellsCommand, a_command, PartOf, a_do, an_if, BodyOf, ElseOf, an_else, ChoiceOf, a_choice, SpellsChoice, SpellsBodyBy, SpellsBody}
use Rattle.ssi_terms.specs.SpotRules.{good_word, deep_spot}
use Rattle.ssi_terms.specs.Read as spec
use Rattle.ssi_terms.specs.CommandRules.{good_command, command_starts}
use Rattle.ssi_terms.proofs.CondRules.{ListEnds, good_cond, deep_cond}

-- ---- commands

pub deep_command : Deepens CommandTree spec.command spec.command
unfolding spec.command
deep_command = deep_mapped (λ x. record { name = x.0; word = x.1 }) (deep_both (deep_spot any_identity) (deep_spot rule_word))

-- a command as a part of a body
data DoText : PartTree → List Lexeme → Type 0 where
  the_command : (command : CommandTree) (u : List Lexeme) → SpellsCommand command u → DoText (p.Do command) u

from_do : (y : PartTree) (u : List Lexeme) → DoText y u → (x : CommandTree) × (y ≡ p.Do x) × SpellsCommand x u
from_do y u (the_command command v h) = (command, refl, h)

good_do : Good PartTree (mapped p.Do spec.command) DoText Always Always
good_do = good_mapped CommandTree PartTree p.Do spec.command SpellsCommand DoText Always Always (λ x u h. the_command x u h) from_do good_command

abbrev is_if : Lexeme → Bool
is_if = word (codes "if")

abbrev is_then : Lexeme → Bool
is_then = word (codes "then")

abbrev is_else : Lexeme → Bool
is_else = word (codes "else")

abbrev is_end : Lexeme → Bool
is_end = word (codes "end")

do_no_if : (x : PartTree) (u rest : List Lexeme) → DoText x u → Always rest → Lacks is_if (u ++ rest)
do_no_if x u rest (the_command command v h) k = lacks_after any_identity is_if u rest (command_starts command u h) (λ t e. identity_not_word (codes "PSTRUL") (codes "if") t e)

-- ---- parts and bodies

module _ (c : Parser PartTree) (C : PartTree → List Lexeme → Type 0) where
  to_part : (x : PartTree) (u : List Lexeme) → OneOf PartTree C DoText x u → PartOf C x u
  to_part x u (the_one y v h) = an_if y v h
  to_part x u (the_other y v (the_command command w h)) = a_do command w h

  from_part : (x : PartTree) (u : List Lexeme) → PartOf C x u → OneOf PartTree C DoText x u
  from_part x u (an_if y v h) = the_one y v h
  from_part x u (a_do command v h) = the_other _ _ (the_command command v h)

  good_part_by : Good PartTree c C Always Always → ((x : PartTree) (u : List Lexeme) → C x u → StartsWith is_if u) → Good PartTree (spec.part_by c) (PartOf C) Always Always
  unfolding spec.part_by
  good_part_by good starts =
      good_as PartTree (either is_if c (mapped p.Do spec.command)) (OneOf PartTree C DoText) (PartOf C) Always Always Always Always to_part from_part (λ rest k. k) (λ rest k. k)
      (good_either PartTree is_if c (mapped p.Do spec.command) C DoText Always Always starts do_no_if good good_do)

-- where no choice may be opened
abbrev none : Parser PartTree
none = too_deep

no_choice : (ts : List Lexeme) → none ts ≡ Err (s.TooDeep, ts)
unfolding too_deep
no_choice ts = refl

to_plain : (groups : ℕ) (x : PartTree) (u : List Lexeme) → DoText x u → PartOf (SpellsChoice groups zero) x u
to_plain groups x u (the_command command w h) = a_do command w h

from_plain : (groups : ℕ) (x : PartTree) (u : List Lexeme) → PartOf (SpellsChoice groups zero) x u → DoText x u
from_plain groups x u (an_if y v h) = absurd h
from_plain groups x u (a_do command v h) = the_command command v h

good_part_without : (groups : ℕ) → Good PartTree (spec.part_by too_deep) (PartOf (SpellsChoice groups zero)) Always Always
unfolding spec.part_by
good_part_without groups =
    good_as PartTree (either is_if too_deep (mapped p.Do spec.command)) DoText (PartOf (SpellsChoice groups zero)) Always Always Always Always (to_plain groups) (from_plain groups) (λ rest k. k) (λ rest k. k)
    (good_either_stop PartTree is_if s.TooDeep too_deep (mapped p.Do spec.command) DoText Always Always no_choice do_no_if good_do)

good_body_by : (c : Parser PartTree) (C : PartTree → List Lexeme → Type 0) → Good PartTree (spec.part_by c) (PartOf C) Always Always → Good BodyTree (spec.body_by c) (BodyOf C) (Lacks comma) ListEnds
unfolding spec.body_by
good_body_by c C good =
    good_mapped (List PartTree) BodyTree (λ parts. record { parts = parts }) (separated (spec.part_by c)) (Listed PartTree (PartOf C)) (BodyOf C) (Lacks comma) ListEnds (λ x u s. s) (λ y u s. (y.parts, refl, s))
    (good_separated PartTree (spec.part_by c) (PartOf C) Always Always (λ ts e. tt) good)

-- ---- choices

module _ (c : Parser CondTree) (b : Parser BodyTree) (C : CondTree → List Lexeme → Type 0) (B : BodyTree → List Lexeme → Type 0)
    (good_c : Good CondTree c C (Lacks comma) ListEnds) (good_b : Good BodyTree b B (Lacks comma) ListEnds) where
  abbrev ElseText : Token × BodyTree → List Lexeme → Type 0
  ElseText = Both Token BodyTree (One is_else) B

  to_else : (x : Token × BodyTree) (u : List Lexeme) → ElseText x u → ElseOf B x.1 u
  to_else x u (both t body v w (one m e) s) = an_else m body w e s

  from_else : (y : BodyTree) (u : List Lexeme) → ElseOf B y u → (x : Token × BodyTree) × (y ≡ x.1) × ElseText x u
  from_else y u (an_else m body v e s) = ((token_of m, body), refl, both (token_of m) body (m ∷ []) v (one m e) s)

  good_otherwise : Good BodyTree (spec.otherwise_by b) (ElseOf B) (Lacks comma) ListEnds
  unfolding spec.otherwise_by
  good_otherwise = good_mapped (Token × BodyTree) BodyTree (λ x. x.1) (tok is_else & b) ElseText (ElseOf B) (Lacks comma) ListEnds to_else from_else (good_then (good_word (codes "else")) good_b)

  else_starts : (x : BodyTree) (u : List Lexeme) → ElseOf B x u → StartsWith is_else u
  else_starts x u (an_else m body v e s) = record { first = m; others = v; parts = refl; passes = e }

  good_maybe_else : Good (Option BodyTree) (spec.maybe_otherwise_by b) (Optional BodyTree (ElseOf B)) Always (Without is_else ListEnds)
  unfolding spec.maybe_otherwise_by
  good_maybe_else = good_maybe BodyTree is_else (spec.otherwise_by b) (ElseOf B) (Lacks comma) ListEnds else_starts good_otherwise

  -- what stands from the else on, from the first branch on, from `then` on, and from the guard on
  abbrev FromElse : Option BodyTree × Token → List Lexeme → Type 0
  FromElse = Both (Option BodyTree) Token (Optional BodyTree (ElseOf B)) (One is_end)

  abbrev FromBody : BodyTree × (Option BodyTree × Token) → List Lexeme → Type 0
  FromBody = Both BodyTree (Option BodyTree × Token) B FromElse

  abbrev FromThen : Token × (BodyTree × (Option BodyTree × Token)) → List Lexeme → Type 0
  FromThen = Both Token (BodyTree × (Option BodyTree × Token)) (One is_then) FromBody

  abbrev FromGuard : CondTree × (Token × (BodyTree × (Option BodyTree × Token))) → List Lexeme → Type 0
  FromGuard = Both CondTree (Token × (BodyTree × (Option BodyTree × Token))) C FromThen

  end_ends : (y : Token) (v rest : List Lexeme) → One is_end y v → Always rest → Without is_else ListEnds (v ++ rest)
  end_ends y v rest t k = record {
    lacks = lacks_after is_end is_else v rest (starts_one is_end y v t) (λ m e. other_word (codes "end") (codes "else") m refl e);
    too = without_after is_end comma v rest (starts_one is_end y v t) (λ m e. word_not_comma (codes "end") m e);
  }

  good_from_else : Good (Option BodyTree × Token) (spec.maybe_otherwise_by b & tok is_end) FromElse Always Always
  good_from_else =
      good_both (Option BodyTree) Token (spec.maybe_otherwise_by b) (tok is_end) (Optional BodyTree (ElseOf B)) (One is_end) Always (Without is_else ListEnds) Always Always end_ends good_maybe_else (good_word (codes "end"))

  else_ends : (y : Option BodyTree × Token) (v rest : List Lexeme) → FromElse y v → Always rest → ListEnds (v ++ rest)
  else_ends y v rest (both o t u w absent (one m e)) k = without_after is_end comma (m ∷ []) rest (record { first = m; others = []; parts = refl; passes = e }) (λ s h. word_not_comma (codes "end") s h)
  else_ends y v rest (both o t u w (present x a s) f) k =
      let h = else_starts x a s in
      without_after is_else comma (a ++ w) rest (record { first = h.first; others = h.others ++ w; parts = ap (λ (l : List Lexeme). l ++ w) h.parts; passes = h.passes }) (λ s h. word_not_comma (codes "else") s h)

  good_from_body : Good (BodyTree × (Option BodyTree × Token)) (b & (spec.maybe_otherwise_by b & tok is_end)) FromBody Always Always
  good_from_body = good_both BodyTree (Option BodyTree × Token) b (spec.maybe_otherwise_by b & tok is_end) B FromElse (Lacks comma) ListEnds Always Always else_ends good_b good_from_else

  good_from_then : Good (Token × (BodyTree × (Option BodyTree × Token))) (tok is_then & (b & (spec.maybe_otherwise_by b & tok is_end))) FromThen Always Always
  good_from_then = good_then (good_word (codes "then")) good_from_body

  then_ends : (y : Token × (BodyTree × (Option BodyTree × Token))) (v rest : List Lexeme) → FromThen y v → Always rest → ListEnds (v ++ rest)
  then_ends y v rest t k =
      without_after is_then comma v rest (starts_both Token (BodyTree × (Option BodyTree × Token)) is_then (One is_then) FromBody (starts_one is_then) y v t) (λ s h. word_not_comma (codes "then") s h)

  good_from_guard : Good (CondTree × (Token × (BodyTree × (Option BodyTree × Token)))) (c & (tok is_then & (b & (spec.maybe_otherwise_by b & tok is_end)))) FromGuard Always Always
  good_from_guard =
      good_both CondTree (Token × (BodyTree × (Option BodyTree × Token))) c (tok is_then & (b & (spec.maybe_otherwise_by b & tok is_end))) C FromThen (Lacks comma) ListEnds Always Always then_ends good_c good_from_then

  abbrev ChoiceParts : Type 0
  ChoiceParts = Token × (CondTree × (Token × (BodyTree × (Option BodyTree × Token))))

  abbrev ChoiceText : ChoiceParts → List Lexeme → Type 0
  ChoiceText = Both Token (CondTree × (Token × (BodyTree × (Option BodyTree × Token)))) (One is_if) FromGuard

  abbrev choice_of : ChoiceParts → PartTree
  choice_of x = p.If x.1.0 x.1.1.1.0 x.1.1.1.1.0

  to_choice : (x : ChoiceParts) (u : List Lexeme) → ChoiceText x u → ChoiceOf C B (choice_of x) u
  to_choice x u (both o a d e (one t h) (both guard f g i j (both m l n q (one r k) (both body z aa ab y (both other v ac ad w (one ae ef)))))) =
      a_choice t r ae guard body other g aa ac h j k y w ef

  from_choice : (y : PartTree) (u : List Lexeme) → ChoiceOf C B y u → (x : ChoiceParts) × (y ≡ choice_of x) × ChoiceText x u
  from_choice y u (a_choice o m e guard body other v w z h i j k d f) = (
    (token_of o, (guard, (token_of m, (body, (other, token_of e))))),
    refl,
    both (token_of o) _ (o ∷ []) _ (one o h) (both guard _ v _ i (both (token_of m) _ (m ∷ []) _ (one m j) (both body _ w _ k (both other (token_of e) z (e ∷ []) d (one e f))))),
  )

  abbrev rest_of_choice : Parser (CondTree × (Token × (BodyTree × (Option BodyTree × Token))))
  rest_of_choice = c & (tok is_then & (b & (spec.maybe_otherwise_by b & tok is_end)))

  good_choice_by : Good PartTree (spec.choice_by c b) (ChoiceOf C B) Always Always
  unfolding spec.choice_by
  good_choice_by = good_mapped ChoiceParts PartTree choice_of (tok is_if & rest_of_choice) ChoiceText (ChoiceOf C B) Always Always to_choice from_choice (good_then (good_word (codes "if")) good_from_guard)

  choice_starts : (x : PartTree) (u : List Lexeme) → ChoiceOf C B x u → StartsWith is_if u
  choice_starts x u (a_choice o m e guard body other v w z h i j k d f) = record { first = o; others = _; parts = refl; passes = h }

  past_choice : (ts : List Lexeme) → sees is_if ts ≡ true → Extends (too_deep ts) (spec.choice_by c b ts)
  unfolding spec.choice_by
  past_choice ts seen = past_opener is_if choice_of rest_of_choice (leaves_no_more (CondTree × (Token × (BodyTree × (Option BodyTree × Token)))) rest_of_choice FromGuard Always Always good_from_guard) ts seen

-- ---- by the levels of groups and choices

pub good_part_at : (groups choices : ℕ) → Good PartTree (spec.part_by (spec.choice groups choices)) (PartOf (SpellsChoice groups choices)) Always Always
unfolding spec.choice
good_part_at groups zero = good_part_without groups
good_part_at groups (suc choices) =
    let body = good_body_by (spec.choice groups choices) (SpellsChoice groups choices) (good_part_at groups choices) in
    good_part_by (spec.choice_by (spec.cond groups) (spec.body_by (spec.choice groups choices))) (ChoiceOf (SpellsCond groups) (BodyOf (SpellsChoice groups choices)))
    (good_choice_by (spec.cond groups) (spec.body_by (spec.choice groups choices)) (SpellsCond groups) (BodyOf (SpellsChoice groups choices)) (good_cond groups) body)
    (choice_starts (spec.cond groups) (spec.body_by (spec.choice groups choices)) (SpellsCond groups) (BodyOf (SpellsChoice groups choices)) (good_cond groups) body)

-- a choice, by whether a level may be opened
pub choice_none : (groups choices : ℕ) (ts : List Lexeme) → choices ≡ 0 → spec.choice groups choices ts ≡ Err (s.TooDeep, ts)
unfolding spec.choice too_deep
choice_none groups zero ts e = refl
choice_none groups (suc choices) ts e = absurd (omega (arith, e))

pub choice_opened : (groups choices : ℕ) (ts : List Lexeme) → 0 < choices → spec.choice groups choices ts ≡ spec.choice_by (spec.cond groups) (spec.body groups (choices - 1)) ts
unfolding spec.choice spec.body
choice_opened groups zero ts less = absurd (omega arith)
choice_opened groups (suc choices) ts less =
    let same : choices ≡ suc choices - 1 = omega arith in ap (λ (n : ℕ). spec.choice_by (spec.cond groups) (spec.body_by (spec.choice groups n)) ts) same

pub good_body : (groups choices : ℕ) → Good BodyTree (spec.body groups choices) (SpellsBodyBy groups choices) (Lacks comma) ListEnds
unfolding spec.body
good_body groups choices = good_body_by (spec.choice groups choices) (SpellsChoice groups choices) (good_part_at groups choices)

deep_do : Deepens PartTree (mapped p.Do spec.command) (mapped p.Do spec.command)
deep_do = deep_mapped p.Do deep_command

deep_part_by : {c d : Parser PartTree} → Deepens PartTree c d → Deepens PartTree (spec.part_by c) (spec.part_by d)
unfolding spec.part_by
deep_part_by e = deep_either is_if e deep_do

deep_body_by : (c d : Parser PartTree) → Deepens PartTree (spec.part_by c) (spec.part_by d) → Deepens BodyTree (spec.body_by c) (spec.body_by d)
unfolding spec.body_by
deep_body_by c d e = deep_mapped (λ parts. record { parts = parts }) (deep_separated e)

deep_choice_by : {c d : Parser CondTree} {b t : Parser BodyTree} → Deepens CondTree c d → Deepens BodyTree b t → Deepens PartTree (spec.choice_by c b) (spec.choice_by d t)
unfolding spec.choice_by spec.maybe_otherwise_by spec.otherwise_by
deep_choice_by e f =
    deep_mapped (λ x. p.If x.1.0 x.1.1.1.0 x.1.1.1.1.0)
    (deep_both (deep_tok is_if) (deep_both e (deep_both (deep_tok is_then) (deep_both f (deep_both (deep_maybe is_else (deep_mapped (λ x. x.1) (deep_both (deep_tok is_else) f))) (deep_tok is_end))))))

-- where no choice may be opened, a reader of one goes past its `if`
first_choice : (c : Parser CondTree) (b : Parser BodyTree) (C : CondTree → List Lexeme → Type 0) (B : BodyTree → List Lexeme → Type 0)
    → Good CondTree c C (Lacks comma) ListEnds → Good BodyTree b B (Lacks comma) ListEnds → Deepens PartTree (spec.part_by too_deep) (spec.part_by (spec.choice_by c b))
unfolding spec.part_by
first_choice c b C B good_c good_b =
    deep_either_seen is_if too_deep (spec.choice_by c b) (past_choice c b C B good_c good_b)
    (leaves_no_more PartTree (spec.choice_by c b) (ChoiceOf C B) Always Always (good_choice_by c b C B good_c good_b)) deep_do

deep_part_at : (groups choices : ℕ) → Deepens PartTree (spec.part_by (spec.choice groups choices)) (spec.part_by (spec.choice (suc groups) (suc choices)))
unfolding spec.choice
deep_part_at groups zero =
    first_choice (spec.cond (suc groups)) (spec.body_by too_deep) (SpellsCond (suc groups)) (BodyOf (SpellsChoice (suc groups) zero)) (good_cond (suc groups))
    (good_body_by too_deep (SpellsChoice (suc groups) zero) (good_part_without (suc groups)))
deep_part_at groups (suc choices) = deep_part_by (deep_choice_by (deep_cond groups) (deep_body_by (spec.choice groups choices) (spec.choice (suc groups) (suc choices)) (deep_part_at groups choices)))

pub deep_body : (groups choices : ℕ) → Deepens BodyTree (spec.body groups choices) (spec.body (suc groups) (suc choices))
unfolding spec.body
deep_body groups choices = deep_body_by (spec.choice groups choices) (spec.choice (suc groups) (suc choices)) (deep_part_at groups choices)

-- a body, with so many levels of groups and of choices
abbrev pub body_at : ℕ → Parser BodyTree
body_at depth = spec.body depth depth

pub bodies : Deep BodyTree body_at SpellsBody (Lacks comma) ListEnds
bodies = record { good = λ depth. good_body depth depth; deepens = λ depth. deep_body depth depth }
