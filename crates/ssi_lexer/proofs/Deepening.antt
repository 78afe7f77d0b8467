-- Readers that take a level more than others, made of such.
use Rattle.std.proofs.Common.{◌≡◌, ℕ, zero, suc, ◌<◌, ◌≤◌, Bool, true, false, cond, List, [], ◌∷◌, ◌++◌, length, Option, Some, None, Ok, Err, refl, sym, ap, subst, arith}
use Rattle.ssi_lexer.specs.declared.token.Token.{Token}
use Rattle.ssi_lexer.specs.declared.wanted.Stop.{Stop}
use Rattle.ssi_lexer.specs.declared.wanted.Stop.TheVariants as s
use Rattle.ssi_lexer.specs.Lexemes.{Lexeme, token_of}
use Rattle.ssi_lexer.specs.TokenTests.{sees, comma}
use Rattle.ssi_lexer.specs.Parsers.{Outcome, Parser, and_then, pure, ◌&◌, mapped, tok, valued, or_stop, either, maybe, many, turns, behind, separated, separated_by, several_by, too_deep}
use Rattle.ssi_lexer.specs.Laws.{tokens_left, GoesPast, Extends, Deepens}

-- ---- one after the other

-- what comes after takes no more than is left
left_then : {A B : Type 0} (o : Outcome A) (k : A → Parser B) → ((x : A) (ts : List Lexeme) → length (tokens_left (k x ts)) ≤ length ts) → length (tokens_left (and_then o k)) ≤ length (tokens_left o)
left_then (Ok r) k h = h r.0 r.1
left_then (Err halt) k h = omega arith

past_then : {A B : Type 0} (stop : Stop) (rest : List Lexeme) (o : Outcome A) (k : A → Parser B) → GoesPast stop rest o → ((x : A) (ts : List Lexeme) → length (tokens_left (k x ts)) ≤ length ts) → GoesPast stop rest (and_then o k)
past_then s.Syntax rest o k e h = ap (λ v. and_then v k) e
past_then s.TooDeep rest o k e h = let less = left_then o k h in omega arith
past_then s.Memory rest o k e h = absurd e

extends_then : {A B : Type 0} (o deeper : Outcome A) (k l : A → Parser B) → Extends o deeper → ((x : A) (ts : List Lexeme) → Extends (k x ts) (l x ts)) → ((x : A) (ts : List Lexeme) → length (tokens_left (l x ts)) ≤ length ts)
    → Extends (and_then o k) (and_then deeper l)
extends_then (Ok r) deeper k l e same h = subst (λ v. Extends (k r.0 r.1) (and_then v l)) (sym e) (same r.0 r.1)
extends_then (Err halt) deeper k l e same h = past_then halt.0 halt.1 deeper l e h

-- what is read first leaves no more, and what comes after neither
no_longer_then : {A B : Type 0} (ts : List Lexeme) (o : Outcome A) (k : A → Parser B) → length (tokens_left o) ≤ length ts → ((x : A) (mid : List Lexeme) → length (tokens_left (k x mid)) ≤ length mid) → length (tokens_left (and_then o k)) ≤ length ts
no_longer_then ts o k le h = let less = left_then o k h in omega arith

pub deep_then : {A B : Type 0} {p q : Parser A} (k l : A → Parser B) → Deepens A p q → ((x : A) → Deepens B (k x) (l x)) → Deepens B (λ ts. and_then (p ts) k) (λ ts. and_then (q ts) l)
deep_then {p = p} {q = q} k l d e = record {
  extends = λ ts. extends_then (p ts) (q ts) k l (d.extends ts) (λ x mid. (e x).extends mid) (λ x mid. (e x).no_longer mid);
  no_longer = λ ts. no_longer_then ts (q ts) l (d.no_longer ts) (λ x mid. (e x).no_longer mid);
}

-- a value, and nothing taken
pub deep_pure : {A : Type 0} (x : A) → Deepens A (pure x) (pure x)
deep_pure x = record { extends = λ ts. refl; no_longer = λ ts. omega arith }

-- a function of what was read
pub extends_mapped : {A B : Type 0} (f : A → B) (o deeper : Outcome A) → Extends o deeper → Extends (and_then o (λ x. pure (f x))) (and_then deeper (λ x. pure (f x)))
extends_mapped f o deeper e = extends_then o deeper (λ x. pure (f x)) (λ x. pure (f x)) e (λ x ts. refl) (λ x ts. omega arith)

pub deep_mapped : {A B : Type 0} {p q : Parser A} (f : A → B) → Deepens A p q → Deepens B (mapped f p) (mapped f q)
deep_mapped f d = deep_then (λ x. pure (f x)) (λ x. pure (f x)) d (λ x. deep_pure (f x))

pub deep_both : {A B : Type 0} {p q : Parser A} {r t : Parser B} → Deepens A p q → Deepens B r t → Deepens (A × B) (p & r) (q & t)
deep_both {r = r} {t = t} d e = deep_then (λ x. mapped (λ y. (x, y)) r) (λ x. mapped (λ y. (x, y)) t) d (λ x. deep_mapped (λ y. (x, y)) e)

-- ---- one token

module _ (test : Lexeme → Bool) where
  tok_by : (t : Lexeme) (ts : List Lexeme) (b : Bool) → Extends (cond b (Ok (token_of t, ts)) (Err (s.Syntax, t ∷ ts))) (cond b (Ok (token_of t, ts)) (Err (s.Syntax, t ∷ ts)))
  tok_by t ts true = refl
  tok_by t ts false = refl

  tok_extends : (ts : List Lexeme) → Extends (tok test ts) (tok test ts)
  unfolding tok
  tok_extends [] = refl
  tok_extends (t ∷ ts) = tok_by t ts (test t)

  fewer_by : (t : Lexeme) (ts : List Lexeme) (b : Bool) → length (tokens_left (cond b (Ok (token_of t, ts)) (Err (s.Syntax, t ∷ ts)))) ≤ length (t ∷ ts)
  fewer_by t ts true = omega arith
  fewer_by t ts false = omega arith

  tok_no_longer : (ts : List Lexeme) → length (tokens_left (tok test ts)) ≤ length ts
  unfolding tok
  tok_no_longer [] = omega arith
  tok_no_longer (t ∷ ts) = fewer_by t ts (test t)

  pub deep_tok : Deepens Token (tok test) (tok test)
  deep_tok = record { extends = tok_extends; no_longer = tok_no_longer }

-- ---- by the next token

module _ (A : Type 0) (test : Lexeme → Bool) (p q r t : Parser A) where
  either_by : (ts : List Lexeme) (b : Bool) → (b ≡ true → Extends (p ts) (q ts)) → Extends (r ts) (t ts) → Extends (cond b (p ts) (r ts)) (cond b (q ts) (t ts))
  either_by ts true d e = d refl
  either_by ts false d e = e

  less_by : (ts : List Lexeme) (b : Bool) → length (tokens_left (q ts)) ≤ length ts → length (tokens_left (t ts)) ≤ length ts → length (tokens_left (cond b (q ts) (t ts))) ≤ length ts
  less_by ts true d e = d
  less_by ts false d e = e

  either_of : ((ts : List Lexeme) → sees test ts ≡ true → Extends (p ts) (q ts)) → ((ts : List Lexeme) → length (tokens_left (q ts)) ≤ length ts) → Deepens A r t → Deepens A (either test p r) (either test q t)
  unfolding either
  either_of d h e = record {
    extends = λ ts. either_by ts (sees test ts) (d ts) (e.extends ts);
    no_longer = λ ts. less_by ts (sees test ts) (h ts) (e.no_longer ts);
  }

-- a choice whose first way has to be deeper only where such a token comes
pub deep_either_seen : {A : Type 0} {r t : Parser A} (test : Lexeme → Bool) (p q : Parser A) → ((ts : List Lexeme) → sees test ts ≡ true → Extends (p ts) (q ts)) → ((ts : List Lexeme) → length (tokens_left (q ts)) ≤ length ts) → Deepens A r t
    → Deepens A (either test p r) (either test q t)
deep_either_seen {A = A} {r = r} {t = t} test p q d h e = either_of A test p q r t d h e

pub deep_either : {A : Type 0} {p q r t : Parser A} (test : Lexeme → Bool) → Deepens A p q → Deepens A r t → Deepens A (either test p r) (either test q t)
deep_either {p = p} {q = q} test d e = deep_either_seen test p q (λ ts seen. d.extends ts) d.no_longer e

maybe_is : {A : Type 0} (test : Lexeme → Bool) (p : Parser A) (ts : List Lexeme) → maybe test p ts ≡ either test (mapped Some p) (pure None) ts
unfolding maybe either
maybe_is test p ts = refl

pub deep_maybe : {A : Type 0} {p q : Parser A} (test : Lexeme → Bool) → Deepens A p q → Deepens (Option A) (maybe test p) (maybe test q)
deep_maybe {A = A} {p = p} {q = q} test d =
    let e : Deepens (Option A) (either test (mapped Some p) (pure None)) (either test (mapped Some q) (pure None)) = deep_either test (deep_mapped Some d) (deep_pure None) in
    record {
      extends = λ ts. subst (λ v. Extends (maybe test p ts) v) (sym (maybe_is test q ts)) (subst (λ v. Extends v (either test (mapped Some q) (pure None) ts)) (sym (maybe_is test p ts)) (e.extends ts));
      no_longer = λ ts. subst (λ v. length (tokens_left v) ≤ length ts) (sym (maybe_is test q ts)) (e.no_longer ts);
    }

-- ---- as long as a token comes

module _ (A : Type 0) (test : Lexeme → Bool) (p q : Parser A) (d : Deepens A p q) where
  -- a turn, and what comes after it
  abbrev turn : Parser A → (A → Parser (List A)) → List A → Parser (List A)
  turn r next found ts = cond (sees test ts) (and_then (r ts) next) (Ok (found, ts))

  turn_by : (found : List A) (k l : A → Parser (List A)) → Deepens (List A) (λ ts. and_then (p ts) k) (λ ts. and_then (q ts) l)
      → (ts : List Lexeme) (b : Bool) → Extends (cond b (and_then (p ts) k) (Ok (found, ts))) (cond b (and_then (q ts) l) (Ok (found, ts)))
  turn_by found k l e ts true = e.extends ts
  turn_by found k l e ts false = refl

  turn_less : (found : List A) (k l : A → Parser (List A)) → Deepens (List A) (λ ts. and_then (p ts) k) (λ ts. and_then (q ts) l)
      → (ts : List Lexeme) (b : Bool) → length (tokens_left (cond b (and_then (q ts) l) (Ok (found, ts)))) ≤ length ts
  turn_less found k l e ts true = e.no_longer ts
  turn_less found k l e ts false = omega arith

  deep_turn : (found : List A) (k l : A → Parser (List A)) → ((x : A) → Deepens (List A) (k x) (l x)) → Deepens (List A) (turn p k found) (turn q l found)
  deep_turn found k l h =
      let e = deep_then k l d h in
      record { extends = λ ts. turn_by found k l e ts (sees test ts); no_longer = λ ts. turn_less found k l e ts (sees test ts) }

  deep_many : (n : ℕ) (found : List A) → Deepens (List A) (many test p n found) (many test q n found)
  unfolding many
  deep_many zero found = deep_pure found
  deep_many (suc n) found = deep_turn found (λ x. many test p n (found ++ x ∷ [])) (λ x. many test q n (found ++ x ∷ [])) (λ x. deep_many n (found ++ x ∷ []))

  turns_of : (found : List A) → Deepens (List A) (turns test p found) (turns test q found)
  unfolding turns
  turns_of found = record {
    extends = λ ts. (deep_many (length ts) found).extends ts;
    no_longer = λ ts. (deep_many (length ts) found).no_longer ts;
  }

pub deep_turns : {A : Type 0} {p q : Parser A} (test : Lexeme → Bool) → Deepens A p q → (found : List A) → Deepens (List A) (turns test p found) (turns test q found)
deep_turns {A = A} {p = p} {q = q} test d found = turns_of A test p q d found

pub deep_separated_by : {A : Type 0} {p q : Parser A} (mark : Lexeme → Bool) → Deepens A p q → Deepens (List A) (separated_by mark p) (separated_by mark q)
unfolding separated_by
deep_separated_by {p = p} {q = q} mark d =
    deep_then (λ x. turns mark (behind mark p) (x ∷ [])) (λ x. turns mark (behind mark q) (x ∷ [])) d
    (λ x. deep_turns mark (deep_mapped (λ z. z.1) (deep_both (deep_tok mark) d)) (x ∷ []))

pub deep_several_by : {A : Type 0} {p q : Parser A} (mark : Lexeme → Bool) → Deepens A p q → Deepens (List A) (several_by mark p) (several_by mark q)
unfolding several_by
deep_several_by {p = p} {q = q} mark d =
    let e = deep_mapped (λ z. z.1) (deep_both (deep_tok mark) d) in
    deep_then (λ x. λ mid. and_then (behind mark p mid) (λ y. turns mark (behind mark p) (x ∷ y ∷ []))) (λ x. λ mid. and_then (behind mark q mid) (λ y. turns mark (behind mark q) (x ∷ y ∷ []))) d
    (λ x. deep_then (λ y. turns mark (behind mark p) (x ∷ y ∷ [])) (λ y. turns mark (behind mark q) (x ∷ y ∷ [])) e (λ y. deep_turns mark e (x ∷ y ∷ [])))

pub deep_separated : {A : Type 0} {p q : Parser A} → Deepens A p q → Deepens (List A) (separated p) (separated q)
deep_separated d = deep_separated_by comma d

-- ---- a level more

past_by : {A B : Type 0} (f : Token × B → A) (t : Lexeme) (ts : List Lexeme) (o : Outcome B) → length (tokens_left o) ≤ length ts
    → length (tokens_left (and_then (and_then o (λ y. pure (token_of t, y))) (λ z. pure (f z)))) < suc (length ts)
past_by f t ts (Ok r) le = omega arith
past_by f t ts (Err halt) le = omega arith

abbrev stops : {A : Type 0} → Parser A
stops {A = A} = too_deep

-- where no level may open, a reader of one goes past the token that opens it
pub past_opener : {A B : Type 0} (test : Lexeme → Bool) (f : Token × B → A) (q : Parser B) → ((ts : List Lexeme) → length (tokens_left (q ts)) ≤ length ts)
    → (ts : List Lexeme) → sees test ts ≡ true → Extends (stops {A = A} ts) (mapped f (tok test & q) ts)
unfolding too_deep tok
past_opener test f q h [] e = absurd cc
past_opener test f q h (t ∷ ts) e = rw e (past_by f t ts (q ts) (h ts))
