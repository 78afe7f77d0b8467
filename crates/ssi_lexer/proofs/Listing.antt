-- Readers of lists with a mark between.
use Rattle.std.specs.Prelude.{if◌then◌else◌}
use Rattle.std.proofs.Common.{◌≡◌, Bool, true, false, List, [], ◌∷◌, ◌++◌, Ok, Err, refl, sym, ap, subst, ◌∙◌}
use Rattle.std.proofs.lemmas.List.{append-nil}
use Rattle.ssi_lexer.specs.declared.token.Token.{Token}
use Rattle.ssi_lexer.specs.declared.token.TokenKind.TheVariants.{Comma}
use Rattle.ssi_lexer.specs.Lexemes.{Lexeme, first_place, token_of}
use Rattle.ssi_lexer.specs.TokenTests.{Is, sees, comma}
use Rattle.ssi_lexer.specs.Languages.{One, one, Repeated, none, some, Listed, ListedBy, SeveralBy, last, and_more, several}
use Rattle.ssi_lexer.specs.Parsers.{Outcome, Parser, and_then, pure, ◌&◌, mapped, tok, turns, behind, separated, separated_by, several_by}
use Rattle.ssi_lexer.specs.Readings.{Reading, after_first, after_next}
use Rattle.ssi_lexer.specs.Laws.{StartsWith, Lacks, Always, Explains, Good}
use Rattle.ssi_lexer.proofs.OneToken.{good_tok}
use Rattle.ssi_lexer.proofs.Joining.{Both, both, good_both, good_mapped, explains_as}
use Rattle.ssi_lexer.proofs.Choosing.{Without}
use Rattle.ssi_lexer.proofs.Repeating.{good_turns, turns_found, turns_go, turns_stop}

-- a comma, for a sample
pub some_comma : Lexeme
some_comma = record { kind = Comma; text = []; start = 0; number = 0; place = first_place }

pub some_comma_is : Is comma some_comma
unfolding some_comma
some_comma_is = refl

-- a value behind a mark
pub data Behind (mark : Lexeme → Bool) (A : Type 0) (S : A → List Lexeme → Type 0) : A → List Lexeme → Type 0 where
  after_mark : (m : Lexeme) (x : A) (u : List Lexeme) → Is mark m → S x u → Behind mark A S x (m ∷ u)

module _ (mark : Lexeme → Bool) (some_mark : Lexeme) (some_mark_is : Is mark some_mark) (A : Type 0) (p : Parser A) (S : A → List Lexeme → Type 0) (E F : List Lexeme → Type 0)
    (meets : (ts : List Lexeme) → sees mark ts ≡ true → F ts) (g : Good A p S E F) where
  abbrev Pair : Token × A → List Lexeme → Type 0
  Pair = Both Token A (One mark) S

  to_behind : (z : Token × A) (u : List Lexeme) → Pair z u → Behind mark A S z.1 u
  to_behind z u (both t x v w (one m e) s) = after_mark m x w e s

  from_behind : (y : A) (u : List Lexeme) → Behind mark A S y u → (z : Token × A) × (y ≡ z.1) × Pair z u
  from_behind y u (after_mark m x v e s) = ((token_of m, x), refl, both (token_of m) x (m ∷ []) v (one m e) s)

  pub good_behind : Good A (behind mark p) (Behind mark A S) E F
  good_behind =
      good_mapped (Token × A) A (λ z. z.1) (tok mark & p) Pair (Behind mark A S) E F to_behind from_behind
      (good_both Token A (tok mark) p (One mark) S Always Always E F (λ y v rest t k. tt) (good_tok mark some_mark some_mark_is) g)

  starts : (x : A) (u : List Lexeme) → Behind mark A S x u → StartsWith mark u
  starts x u (after_mark m y v e s) = record { first = m; others = v; parts = refl; passes = e }

  -- the elements after the first
  pub good_more : Good (List A) (turns mark (behind mark p) []) (Repeated A (Behind mark A S)) (Lacks mark) (Without mark F)
  good_more = good_turns A mark (behind mark p) (Behind mark A S) E F starts meets good_behind

  -- ---- the first element, and those after it

  abbrev parted : Parser (List A)
  parted = mapped (λ z. z.0 ∷ z.1) (p & turns mark (behind mark p) [])

  abbrev with_more : Outcome A → Outcome (A × List A)
  with_more o = and_then o (λ a. λ mid. and_then (turns mark (behind mark p) [] mid) (λ b. pure (a, b)))

  abbrev in_one_list : Outcome (A × List A) → Outcome (List A)
  in_one_list o = and_then o (λ z. pure (z.0 ∷ z.1))

  abbrev paired : A → Outcome (List A) → Outcome (A × List A)
  paired x o = and_then o (λ b. pure (x, b))

  as_pair : (x : A) (o : Outcome (List A)) → and_then o (λ xs. λ rest. Ok ((x ∷ []) ++ xs, rest)) ≡ in_one_list (paired x o)
  as_pair x (Ok s) = refl
  as_pair x (Err halt) = refl

  parted_by : (o : Outcome A) → and_then o (λ a. turns mark (behind mark p) (a ∷ [])) ≡ in_one_list (with_more o)
  parted_by (Err halt) = refl
  parted_by (Ok r) = turns_found A mark (behind mark p) (Behind mark A S) E F starts meets good_behind (r.0 ∷ []) r.1 ∙ as_pair r.0 (turns mark (behind mark p) [] r.1)

  separated_is : (ts : List Lexeme) → separated_by mark p ts ≡ parted ts
  unfolding separated_by
  separated_is ts = parted_by (p ts)

  to_more : (x : A) (u : List Lexeme) → S x u → (xs : List A) (v : List Lexeme) → Repeated A (Behind mark A S) xs v → ListedBy mark A S (x ∷ xs) (u ++ v)
  to_more x u s xs v none = subst (ListedBy mark A S (x ∷ [])) (sym (append-nil u)) (last x u s)
  to_more x u s xs v (some y ys w z (after_mark m b c e t) r) = subst (ListedBy mark A S (x ∷ (b ∷ ys))) (ap (λ (l : List Lexeme). u ++ (m ∷ l)) refl) (and_more x (b ∷ ys) m u (c ++ z) s e (to_more b c t ys z r))

  to_listed : (z : A × List A) (u : List Lexeme) → Both A (List A) S (Repeated A (Behind mark A S)) z u → ListedBy mark A S (z.0 ∷ z.1) u
  to_listed z u (both x xs v w s r) = to_more x v s xs w r

  from_more : (m : Lexeme) → Is mark m → (xs : List A) (v : List Lexeme) → ListedBy mark A S xs v → Repeated A (Behind mark A S) xs (m ∷ v)
  from_more m e xs v (last x u s) = subst (λ (w : List Lexeme). Repeated A (Behind mark A S) (x ∷ []) (m ∷ w)) (append-nil u) (some x [] (m ∷ u) [] (after_mark m x u e s) none)
  from_more m e xs v (and_more x ys k u w s h r) = some x ys (m ∷ u) (k ∷ w) (after_mark m x u e s) (from_more k h ys w r)

  from_listed : (xs : List A) (u : List Lexeme) → ListedBy mark A S xs u → (z : A × List A) × (xs ≡ z.0 ∷ z.1) × Both A (List A) S (Repeated A (Behind mark A S)) z u
  from_listed xs u (last x v s) = ((x, []), refl, subst (Both A (List A) S (Repeated A (Behind mark A S)) (x, [])) (append-nil v) (both x [] v [] s none))
  from_listed xs u (and_more x ys m v w s e r) = ((x, ys), refl, both x ys v (m ∷ w) s (from_more m e ys w r))

  followed : (xs : List A) (v rest : List Lexeme) → Repeated A (Behind mark A S) xs v → Without mark F rest → F (v ++ rest)
  followed xs v rest none k = k.too
  followed xs v rest (some x ys u w (after_mark m b c e s) r) k = meets (((m ∷ c) ++ w) ++ rest) e

  good_parted : Good (List A) parted (ListedBy mark A S) (Lacks mark) (Without mark F)
  good_parted =
      good_mapped (A × List A) (List A) (λ z. z.0 ∷ z.1) (p & turns mark (behind mark p) []) (Both A (List A) S (Repeated A (Behind mark A S))) (ListedBy mark A S) (Lacks mark) (Without mark F) to_listed from_listed
      (good_both A (List A) p (turns mark (behind mark p) []) S (Repeated A (Behind mark A S)) E F (Lacks mark) (Without mark F) followed g good_more)

  pub good_separated_by : Good (List A) (separated_by mark p) (ListedBy mark A S) (Lacks mark) (Without mark F)
  good_separated_by = record {
    explains = λ ts. subst (Explains (List A) (separated_by mark p) (ListedBy mark A S) (Lacks mark) ts) (sym (separated_is ts))
        (explains_as (List A) parted (separated_by mark p) (ListedBy mark A S) (ListedBy mark A S) (Lacks mark) (Lacks mark) ts (λ other h. separated_is other) (λ x u s. s) (λ rest k. k) (parted ts) (good_parted.explains ts));
    complete = λ x used rest s k. separated_is (used ++ rest) ∙ good_parted.complete x used rest s k;
    sample = good_parted.sample;
    text = good_parted.text;
    sample_is = good_parted.sample_is;
  }

  -- ---- two elements at least

  abbrev marked : Token → Outcome A → Outcome (Token × A)
  marked m o = and_then o (λ x. pure (m, x))

  abbrev first_and_others : Parser (List A)
  first_and_others = mapped (λ z. z.0 ∷ z.1.1) (p & (tok mark & separated_by mark p))

  abbrev in_front : A → Outcome (List A) → Outcome (List A)
  in_front x o = and_then o (λ xs. pure (x ∷ xs))

  -- what comes behind the first mark
  abbrev then_second : A → Outcome A → Outcome (List A)
  then_second x o = and_then o (λ y. turns mark (behind mark p) (x ∷ y ∷ []))

  with_both : (x y : A) (o : Outcome (List A)) → and_then o (λ xs. λ rest. Ok ((x ∷ y ∷ []) ++ xs, rest)) ≡ in_front x (and_then o (λ xs. λ rest. Ok ((y ∷ []) ++ xs, rest)))
  with_both x y (Ok r) = refl
  with_both x y (Err halt) = refl

  second_by : (x : A) (o : Outcome A) → then_second x o ≡ in_front x (and_then o (λ y. turns mark (behind mark p) (y ∷ [])))
  second_by x (Err halt) = refl
  second_by x (Ok r) =
      turns_found A mark (behind mark p) (Behind mark A S) E F starts meets good_behind (x ∷ r.0 ∷ []) r.1
      ∙ with_both x r.0 (turns mark (behind mark p) [] r.1)
      ∙ ap (in_front x) (sym (turns_found A mark (behind mark p) (Behind mark A S) E F starts meets good_behind (r.0 ∷ []) r.1))

  -- a mark, and then the others
  abbrev with_mark : Token → Outcome (List A) → Outcome (Token × List A)
  with_mark m o = and_then o (λ xs. pure (m, xs))

  abbrev with_first : A → Outcome (Token × List A) → Outcome (A × (Token × List A))
  with_first x o = and_then o (λ b. pure (x, b))

  abbrev all_of : Outcome (A × (Token × List A)) → Outcome (List A)
  all_of o = and_then o (λ z. pure (z.0 ∷ z.1.1))

  abbrev others_by : Outcome Token → Outcome (Token × List A)
  others_by o = and_then o (λ m. λ mid. with_mark m (separated_by mark p mid))

  unmarked : (x : A) (m : Token) (o : Outcome (List A)) → in_front x o ≡ all_of (with_first x (with_mark m o))
  unmarked x m (Ok r) = refl
  unmarked x m (Err halt) = refl

  plain : (m : Token) (o : Outcome A) → and_then (marked m o) (λ z. pure z.1) ≡ o
  plain m (Ok r) = refl
  plain m (Err halt) = refl

  behind_by : (x : A) (o : Outcome Token) → then_second x (and_then (and_then o (λ m. λ mid. marked m (p mid))) (λ z. pure z.1)) ≡ all_of (with_first x (others_by o))
  unfolding separated_by
  behind_by x (Err halt) = refl
  behind_by x (Ok r) = ap (then_second x) (plain r.0 (p r.1)) ∙ second_by x (p r.1) ∙ unmarked x r.0 (separated_by mark p r.1)

  several_of : (o : Outcome A) → and_then o (λ a. λ mid. then_second a (behind mark p mid)) ≡ all_of (and_then o (λ a. λ mid. with_first a (others_by (tok mark mid))))
  several_of (Err halt) = refl
  several_of (Ok r) = behind_by r.0 (tok mark r.1)

  several_is : (ts : List Lexeme) → several_by mark p ts ≡ first_and_others ts
  unfolding several_by
  several_is ts = several_of (p ts)

  abbrev Others : Token × List A → List Lexeme → Type 0
  Others = Both Token (List A) (One mark) (ListedBy mark A S)

  to_several : (z : A × (Token × List A)) (u : List Lexeme) → Both A (Token × List A) S Others z u → SeveralBy mark A S (z.0 ∷ z.1.1) u
  to_several z u (both x y v w s (both t xs a b (one m e) l)) = several x xs m v b s e l

  from_several : (xs : List A) (u : List Lexeme) → SeveralBy mark A S xs u → (z : A × (Token × List A)) × (xs ≡ z.0 ∷ z.1.1) × Both A (Token × List A) S Others z u
  from_several xs u (several x ys m v w s e l) = ((x, (token_of m, ys)), refl, both x (token_of m, ys) v (m ∷ w) s (both (token_of m) ys (m ∷ []) w (one m e) l))

  mark_meets : (z : Token × List A) (v rest : List Lexeme) → Others z v → Without mark F rest → F (v ++ rest)
  mark_meets z v rest (both t xs a b (one m e) l) k = meets ((m ∷ b) ++ rest) e

  pub good_several_by : Good (List A) (several_by mark p) (SeveralBy mark A S) (Lacks mark) (Without mark F)
  good_several_by =
      let whole : Good (List A) first_and_others (SeveralBy mark A S) (Lacks mark) (Without mark F) =
      good_mapped (A × (Token × List A)) (List A) (λ z. z.0 ∷ z.1.1) (p & (tok mark & separated_by mark p)) (Both A (Token × List A) S Others) (SeveralBy mark A S) (Lacks mark) (Without mark F) to_several from_several
      (good_both A (Token × List A) p (tok mark & separated_by mark p) S Others E F (Lacks mark) (Without mark F) mark_meets g
      (good_both Token (List A) (tok mark) (separated_by mark p) (One mark) (ListedBy mark A S) Always Always (Lacks mark) (Without mark F) (λ y v rest t k. tt) (good_tok mark some_mark some_mark_is) good_separated_by)) in
      record {
        explains = λ ts. subst (Explains (List A) (several_by mark p) (SeveralBy mark A S) (Lacks mark) ts) (sym (several_is ts))
            (explains_as (List A) first_and_others (several_by mark p) (SeveralBy mark A S) (SeveralBy mark A S) (Lacks mark) (Lacks mark) ts (λ other h. several_is other) (λ x u s. s) (λ rest k. k) (first_and_others ts) (whole.explains ts));
        complete = λ x used rest s k. several_is (used ++ rest) ∙ whole.complete x used rest s k;
        sample = whole.sample;
        text = whole.text;
        sample_is = whole.sample_is;
      }

  -- ---- beside a loop that takes the mark

  past_mark : (m : Token) (o : Outcome A) (f : A → Parser (List A)) → and_then (and_then (marked m o) (λ z. pure z.1)) f ≡ and_then o f
  past_mark m (Ok r) f = refl
  past_mark m (Err halt) f = refl

  behind_mark : (m : Lexeme) (ts : List Lexeme) (f : A → Parser (List A)) → Is mark m → and_then (behind mark p (m ∷ ts)) f ≡ and_then (p ts) f
  unfolding tok
  behind_mark m ts f e = rw e (past_mark (token_of m) (p ts) f)

  mark_by : (found : List A) (old new : Reading) (left : List Lexeme) → old.left ≡ left → sees mark left ≡ true → new ≡ after_first old left
      → turns mark (behind mark p) found left ≡ and_then (p new.left) (λ x. turns mark (behind mark p) (found ++ x ∷ []))
  mark_by found old new [] is e moved = absurd cc
  mark_by found old new (m ∷ ts) is e moved =
      turns_go A mark (behind mark p) (Behind mark A S) E F starts meets good_behind found (m ∷ ts) e
      ∙ behind_mark m ts (λ x. turns mark (behind mark p) (found ++ x ∷ [])) e
      ∙ ap (λ (reading : Reading). and_then (p reading.left) (λ x. turns mark (behind mark p) (found ++ x ∷ []))) (sym moved)

  pub mark_go : (found : List A) (old new : Reading) (seen : Bool) → seen ≡ sees mark old.left → new ≡ (if seen then after_next old else old) → seen ≡ true
      → turns mark (behind mark p) found old.left ≡ and_then (p new.left) (λ x. turns mark (behind mark p) (found ++ x ∷ []))
  mark_go found old new seen is moved e =
      mark_by found old new old.left refl (sym is ∙ e) (moved ∙ ap (λ (b : Bool). if b then after_next old else old) e)

  pub mark_stop : (found : List A) (old new : Reading) (seen : Bool) → seen ≡ sees mark old.left → new ≡ (if seen then after_next old else old) → seen ≡ false
      → turns mark (behind mark p) found old.left ≡ Ok (found, new.left)
  mark_stop found old new seen is moved e =
      let stays : new ≡ old = moved ∙ ap (λ (b : Bool). if b then after_next old else old) e in
      turns_stop A mark (behind mark p) (Behind mark A S) E F starts meets good_behind found old.left (sym is ∙ e) ∙ ap (λ (reading : Reading). Ok (found, reading.left)) (sym stays)

-- with a comma between
pub good_separated : (A : Type 0) (p : Parser A) (S : A → List Lexeme → Type 0) (E F : List Lexeme → Type 0) → ((ts : List Lexeme) → sees comma ts ≡ true → F ts) → Good A p S E F → Good (List A) (separated p) (Listed A S) (Lacks comma) (Without comma F)
good_separated = good_separated_by comma some_comma some_comma_is
