-- Readers that go on as long as a token comes next that passes a test.
use Rattle.std.proofs.Common.{◌≡◌, ℕ, zero, suc, ◌≤◌, Bool, true, false, cond, List, [], ◌∷◌, ◌++◌, length, Ok, Err, refl, sym, ap, subst, ◌∙◌, append_assoc, length-append, arith}
use Rattle.std.proofs.lemmas.List.{append-nil}
use Rattle.ssi_lexer.specs.declared.wanted.Stop.{Stop}
use Rattle.ssi_lexer.specs.Lexemes.{Lexeme}
use Rattle.ssi_lexer.specs.TokenTests.{sees}
use Rattle.ssi_lexer.specs.Languages.{Repeated, none, some}
use Rattle.ssi_lexer.specs.Parsers.{Outcome, Parser, and_then, many, turns}
use Rattle.ssi_lexer.specs.Laws.{BeginAlike, StartsWith, Lacks, Took, Halted, Explains, Good}
use Rattle.ssi_lexer.proofs.Joining.{alike_in, took}
use Rattle.ssi_lexer.proofs.Choosing.{sees_alike, sees_started, Without}

module _ (A : Type 0) (test : Lexeme → Bool) (p : Parser A) (S : A → List Lexeme → Type 0) (E F : List Lexeme → Type 0)
    (starts : (x : A) (u : List Lexeme) → S x u → StartsWith test u) (meets : (ts : List Lexeme) → sees test ts ≡ true → F ts) (g : Good A p S E F) where
  -- an element takes a token at least
  pub shorter : (ts : List Lexeme) (x : A) (rest : List Lexeme) → p ts ≡ Ok (x, rest) → suc (length rest) ≤ length ts
  shorter ts x rest h =
      let t = took A p S E F g ts x rest h in
      let s = starts x t.used t.spells in
      omega (arith, ap length t.parts, length-append t.used rest, ap length s.parts)

  -- enough turns are enough
  same_turns : (n m : ℕ) (found : List A) (ts : List Lexeme) → length ts ≤ n → length ts ≤ m → many test p n found ts ≡ many test p m found ts
  unfolding many
  same_turns zero zero found ts a b = refl
  same_turns zero (suc m) found [] a b = refl
  same_turns zero (suc m) found (t ∷ ts) a b = absurd (omega arith)
  same_turns (suc n) zero found [] a b = refl
  same_turns (suc n) zero found (t ∷ ts) a b = absurd (omega arith)
  same_turns (suc n) (suc m) found ts a b =
      let next : (o : Outcome A) → p ts ≡ o → and_then o (λ x. many test p n (found ++ x ∷ [])) ≡ and_then o (λ x. many test p m (found ++ x ∷ [])) =
      λ o. elim o as (λ v. p ts ≡ v → and_then v (λ x. many test p n (found ++ x ∷ [])) ≡ and_then v (λ x. many test p m (found ++ x ∷ []))) [
        | Err halt ↦ λ h. refl
        | Ok r ↦ λ h. let less = shorter ts r.0 r.1 h in same_turns n m (found ++ r.0 ∷ []) r.1 (omega arith) (omega arith)
      ] in
      ap (λ (o : Outcome (List A)). cond (sees test ts) o (Ok (found, ts))) (next (p ts) refl)

  pub turns_stop : (found : List A) (ts : List Lexeme) → Lacks test ts → turns test p found ts ≡ Ok (found, ts)
  unfolding turns many
  turns_stop found [] e = refl
  turns_stop found (t ∷ ts) e = rw e refl

  turns_on : (found : List A) (ts : List Lexeme) (o : Outcome A) → p ts ≡ o → (n : ℕ) → length ts ≤ suc n → and_then o (λ x. many test p n (found ++ x ∷ [])) ≡ and_then o (λ x. turns test p (found ++ x ∷ []))
  unfolding turns
  turns_on found ts (Err halt) h n le = refl
  turns_on found ts (Ok r) h n le = let less = shorter ts r.0 r.1 h in same_turns n (length r.1) (found ++ r.0 ∷ []) r.1 (omega arith) (omega arith)

  -- a turn reads one more
  pub turns_go : (found : List A) (ts : List Lexeme) → sees test ts ≡ true → turns test p found ts ≡ and_then (p ts) (λ x. turns test p (found ++ x ∷ []))
  unfolding turns many
  turns_go found [] e = absurd cc
  turns_go found (t ∷ ts) e = rw e (turns_on found (t ∷ ts) (p (t ∷ ts)) refl (length ts) (omega arith))

  -- ---- what was found before stands before what is found

  abbrev with_found : List A → Outcome (List A) → Outcome (List A)
  with_found found o = and_then o (λ xs. λ rest. Ok (found ++ xs, rest))

  found_more : (found : List A) (x : A) (o : Outcome (List A)) → with_found (found ++ x ∷ []) o ≡ with_found found (with_found (x ∷ []) o)
  found_more found x (Ok r) = ap (λ (all : List A). Ok (all, r.1)) (append_assoc found (x ∷ []) r.0)
  found_more found x (Err halt) = refl

  found_by : (n : ℕ) (found : List A) (ts : List Lexeme) → length ts ≤ suc n
      → ((more : List A) (mid : List Lexeme) → length mid ≤ n → turns test p more mid ≡ with_found more (turns test p [] mid))
      → (o : Outcome A) → p ts ≡ o → and_then o (λ x. turns test p (found ++ x ∷ [])) ≡ with_found found (and_then o (λ x. turns test p (x ∷ [])))
  found_by n found ts le next (Err halt) is = refl
  found_by n found ts le next (Ok r) is =
      let less = shorter ts r.0 r.1 is in
      next (found ++ r.0 ∷ []) r.1 (omega arith) ∙ found_more found r.0 (turns test p [] r.1) ∙ ap (with_found found) (sym (next (r.0 ∷ []) r.1 (omega arith)))

  turns_found_by : (n : ℕ) (found : List A) (ts : List Lexeme) → length ts ≤ n → (b : Bool) → sees test ts ≡ b → turns test p found ts ≡ with_found found (turns test p [] ts)
  turns_found_by n found ts le false e = rw (turns_stop found ts e, turns_stop [] ts e) (ap (λ (all : List A). Ok (all, ts)) (sym (append-nil found)))
  turns_found_by zero found [] le true e = absurd cc
  turns_found_by zero found (t ∷ ts) le true e = absurd (omega arith)
  turns_found_by (suc n) found ts le true e =
      turns_go found ts e ∙ found_by n found ts le (λ more mid fits. turns_found_by n more mid fits (sees test mid) refl) (p ts) refl ∙ ap (with_found found) (sym (turns_go [] ts e))

  pub turns_found : (found : List A) (ts : List Lexeme) → turns test p found ts ≡ and_then (turns test p [] ts) (λ xs. λ rest. Ok (found ++ xs, rest))
  turns_found found ts = turns_found_by (length ts) found ts (omega arith) (sees test ts) refl

  -- ---- what was read

  record TurnsTook (found : List A) (ts : List Lexeme) (all : List A) (rest : List Lexeme) : Type 0 where
    xs : List A
    used : List Lexeme
    all_is : all ≡ found ++ xs
    parts : ts ≡ used ++ rest
    spells : Repeated A S xs used
    follows : Lacks test rest
    again : (other : List Lexeme) → BeginAlike other rest → turns test p found (used ++ other) ≡ Ok (all, other)

  record TurnsHalted (found : List A) (ts : List Lexeme) (stop : Stop) (rest : List Lexeme) : Type 0 where
    front : List Lexeme
    parts : ts ≡ front ++ rest
    xs : List A
    others : List Lexeme
    begins : Repeated A S xs (front ++ others)
    again : (other : List Lexeme) → BeginAlike other rest → turns test p found (front ++ other) ≡ Err (stop, other)

  abbrev TurnsExplain : List A → List Lexeme → Outcome (List A) → Type 0
  TurnsExplain found ts (Ok r) = TurnsTook found ts r.0 r.1
  TurnsExplain found ts (Err halt) = TurnsHalted found ts halt.0 halt.1

  ends : (found : List A) (ts : List Lexeme) → Lacks test ts → TurnsTook found ts found ts
  ends found ts e = record {
    xs = [];
    used = [];
    all_is = sym (append-nil found);
    parts = refl;
    spells = none;
    follows = e;
    again = λ other h. turns_stop found other (sees_alike test other ts h ∙ e);
  }

  after_one : (found : List A) (ts mid : List Lexeme) (x : A) → sees test ts ≡ true → Took A p S E ts x mid → (o : Outcome (List A)) → TurnsExplain (found ++ x ∷ []) mid o → TurnsExplain found ts o
  after_one found ts mid x e a (Ok r) b = record {
    xs = x ∷ b.xs;
    used = a.used ++ b.used;
    all_is = b.all_is ∙ append_assoc found (x ∷ []) b.xs;
    parts = a.parts ∙ ap (λ (w : List Lexeme). a.used ++ w) b.parts ∙ sym (append_assoc a.used b.used r.1);
    spells = some x b.xs a.used b.used a.spells b.spells;
    follows = b.follows;
    again = λ other h.
        let first_is = a.again (b.used ++ other) (alike_in b.used other r.1 mid b.parts h) in
        let seen = sees_started test a.used (b.used ++ other) (starts x a.used a.spells) in
        rw (append_assoc a.used b.used other) (turns_go found (a.used ++ (b.used ++ other)) seen ∙ rw first_is (b.again other h));
  }
  after_one found ts mid x e a (Err halt) b = record {
    front = a.used ++ b.front;
    parts = a.parts ∙ ap (λ (w : List Lexeme). a.used ++ w) b.parts ∙ sym (append_assoc a.used b.front halt.1);
    xs = x ∷ b.xs;
    others = b.others;
    begins = subst (Repeated A S (x ∷ b.xs)) (sym (append_assoc a.used b.front b.others)) (some x b.xs a.used (b.front ++ b.others) a.spells b.begins);
    again = λ other h.
        let first_is = a.again (b.front ++ other) (alike_in b.front other halt.1 mid b.parts h) in
        let seen = sees_started test a.used (b.front ++ other) (starts x a.used a.spells) in
        rw (append_assoc a.used b.front other) (turns_go found (a.used ++ (b.front ++ other)) seen ∙ rw first_is (b.again other h));
  }

  -- the first element stops the reader
  at_one : (found : List A) (ts : List Lexeme) (stop : Stop) (rest : List Lexeme) → sees test ts ≡ true → Halted A p S ts stop rest → TurnsHalted found ts stop rest
  at_one found ts stop rest e a = record {
    front = a.front;
    parts = a.parts;
    xs = a.value ∷ [];
    others = a.others;
    begins = subst (Repeated A S (a.value ∷ [])) (append-nil (a.front ++ a.others)) (some a.value [] (a.front ++ a.others) [] a.begins none);
    again = λ other h.
        let seen : sees test (a.front ++ other) ≡ true = sees_alike test (a.front ++ other) ts (alike_in a.front other rest ts a.parts h) ∙ e in
        turns_go found (a.front ++ other) seen ∙ rw (a.again other h) refl;
  }

  by_one : (n : ℕ) (found : List A) (ts : List Lexeme) → length ts ≤ suc n → sees test ts ≡ true
      → ((x : A) (mid : List Lexeme) → length mid ≤ n → TurnsExplain (found ++ x ∷ []) mid (turns test p (found ++ x ∷ []) mid))
      → (o : Outcome A) → p ts ≡ o → Explains A p S E ts o → TurnsExplain found ts (and_then o (λ x. turns test p (found ++ x ∷ [])))
  by_one n found ts le e next (Err halt) is a = at_one found ts halt.0 halt.1 e a
  by_one n found ts le e next (Ok r) is a =
      let less = shorter ts r.0 r.1 is in
      after_one found ts r.1 r.0 e a (turns test p (found ++ r.0 ∷ []) r.1) (next r.0 r.1 (omega arith))

  turns_by : (n : ℕ) (found : List A) (ts : List Lexeme) → length ts ≤ n → (b : Bool) → sees test ts ≡ b → TurnsExplain found ts (turns test p found ts)
  turns_by n found ts le false e = subst (TurnsExplain found ts) (sym (turns_stop found ts e)) (ends found ts e)
  turns_by zero found [] le true e = absurd cc
  turns_by zero found (t ∷ ts) le true e = absurd (omega arith)
  turns_by (suc n) found ts le true e =
      subst (TurnsExplain found ts) (sym (turns_go found ts e))
      (by_one n found ts le e (λ x mid fits. turns_by n (found ++ x ∷ []) mid fits (sees test mid) refl) (p ts) refl (g.explains ts))

  explains_of : (ts : List Lexeme) (o : Outcome (List A)) → TurnsExplain [] ts o → Explains (List A) (turns test p []) (Repeated A S) (Lacks test) ts o
  explains_of ts (Ok r) b = record {
    used = b.used;
    parts = b.parts;
    spells = subst (λ (xs : List A). Repeated A S xs b.used) (sym b.all_is) b.spells;
    follows = b.follows;
    again = b.again;
  }
  explains_of ts (Err halt) b = record { front = b.front; parts = b.parts; value = b.xs; others = b.others; begins = b.begins; again = b.again }

  pub explains_turns : (ts : List Lexeme) → Explains (List A) (turns test p []) (Repeated A S) (Lacks test) ts (turns test p [] ts)
  explains_turns ts = explains_of ts (turns test p [] ts) (turns_by (length ts) [] ts (omega arith) (sees test ts) refl)

  -- ---- what is spelled is read

  followed : (xs : List A) (u rest : List Lexeme) → Repeated A S xs u → Without test F rest → F (u ++ rest)
  followed xs u rest none k = k.too
  followed xs u rest (some x ys v w s r) k =
      let h = starts x v s in
      meets ((v ++ w) ++ rest) (rw h.parts h.passes)

  pub turns_complete : (xs found : List A) (used rest : List Lexeme) → Repeated A S xs used → Without test F rest → turns test p found (used ++ rest) ≡ Ok (found ++ xs, rest)
  turns_complete xs found used rest none k = turns_stop found rest k.lacks ∙ ap (λ (all : List A). Ok (all, rest)) (sym (append-nil found))
  turns_complete xs found used rest (some x ys u v s r) k =
      let one_is : p ((u ++ v) ++ rest) ≡ Ok (x, v ++ rest) = ap p (append_assoc u v rest) ∙ g.complete x u (v ++ rest) s (followed ys v rest r k) in
      let h = starts x u s in
      let seen : sees test ((u ++ v) ++ rest) ≡ true = rw h.parts h.passes in
      let more = turns_complete ys (found ++ x ∷ []) v rest r k in
      turns_go found ((u ++ v) ++ rest) seen ∙ rw one_is (more ∙ ap (λ (all : List A). Ok (all, rest)) (append_assoc found (x ∷ []) ys))

  pub good_turns : Good (List A) (turns test p []) (Repeated A S) (Lacks test) (Without test F)
  good_turns = record {
    explains = explains_turns;
    complete = λ xs used rest s k. turns_complete xs [] used rest s k;
    sample = [];
    text = [];
    sample_is = none;
  }
