-- Readers one after another, under another name, and with a function of what they read.
use Rattle.std.proofs.Common.{◌≡◌, ◌≤◌, List, [], ◌∷◌, ◌++◌, length, Ok, Err, refl, sym, ap, subst, ◌∙◌, append_assoc, length-append, arith}
use Rattle.ssi_lexer.specs.declared.wanted.Stop.{Stop}
use Rattle.ssi_lexer.specs.Lexemes.{Lexeme}
use Rattle.ssi_lexer.specs.Parsers.{Outcome, Parser, and_then, pure, ◌&◌, mapped}
use Rattle.ssi_lexer.specs.Laws.{first_lexeme, BeginAlike, Took, Halted, Explains, Good, tokens_left}

-- what stands before keeps two lists alike
pub alike_after : (u a b : List Lexeme) → BeginAlike a b → BeginAlike (u ++ a) (u ++ b)
alike_after [] a b e = e
alike_after (t ∷ u) a b e = refl

-- the same, where the second list is given whole
pub alike_in : (u a b ts : List Lexeme) → ts ≡ u ++ b → BeginAlike a b → BeginAlike (u ++ a) ts
alike_in u a b ts e h = alike_after u a b h ∙ ap first_lexeme (sym e)

-- the one and then the other
pub data Both (A B : Type 0) (S : A → List Lexeme → Type 0) (T : B → List Lexeme → Type 0) : A × B → List Lexeme → Type 0 where
  both : (x : A) (y : B) (u v : List Lexeme) → S x u → T y v → Both A B S T (x, y) (u ++ v)

module _ (A B : Type 0) (p : Parser A) (q : Parser B) (S : A → List Lexeme → Type 0) (T : B → List Lexeme → Type 0) (D F E G : List Lexeme → Type 0)
    (meets : (y : B) (v rest : List Lexeme) → T y v → G rest → F (v ++ rest)) (g : Good A p S D F) (h : Good B q T E G) where
  second : (ts mid : List Lexeme) (x : A) → Took A p S D ts x mid → (o : Outcome B) → Explains B q T E mid o → Explains (A × B) (p & q) (Both A B S T) E ts (and_then o (λ b. pure (x, b)))
  second ts mid x a (Ok r) b = record {
    used = a.used ++ b.used;
    parts = a.parts ∙ ap (λ (w : List Lexeme). a.used ++ w) b.parts ∙ sym (append_assoc a.used b.used r.1);
    spells = both x r.0 a.used b.used a.spells b.spells;
    follows = b.follows;
    again = λ other e.
        let first_is = a.again (b.used ++ other) (alike_in b.used other r.1 mid b.parts e) in
        rw (append_assoc, first_is, b.again other e) refl;
  }
  second ts mid x a (Err halt) b = record {
    front = a.used ++ b.front;
    parts = a.parts ∙ ap (λ (w : List Lexeme). a.used ++ w) b.parts ∙ sym (append_assoc a.used b.front halt.1);
    value = (x, b.value);
    others = b.others;
    begins = subst (Both A B S T (x, b.value)) (sym (append_assoc a.used b.front b.others)) (both x b.value a.used (b.front ++ b.others) a.spells b.begins);
    again = λ other e.
        let first_is = a.again (b.front ++ other) (alike_in b.front other halt.1 mid b.parts e) in
        rw (append_assoc, first_is, b.again other e) refl;
  }

  both_explain : (ts : List Lexeme) (o : Outcome A) → Explains A p S D ts o → Explains (A × B) (p & q) (Both A B S T) E ts (and_then o (λ a. λ mid. and_then (q mid) (λ b. pure (a, b))))
  both_explain ts (Ok r) a = second ts r.1 r.0 a (q r.1) (h.explains r.1)
  both_explain ts (Err halt) a = record {
    front = a.front;
    parts = a.parts;
    value = (a.value, h.sample);
    others = a.others ++ h.text;
    begins = subst (Both A B S T (a.value, h.sample)) (append_assoc a.front a.others h.text) (both a.value h.sample (a.front ++ a.others) h.text a.begins h.sample_is);
    again = λ other e. rw (a.again other e) refl;
  }

  both_complete : (z : A × B) (used rest : List Lexeme) → Both A B S T z used → G rest → (p & q) (used ++ rest) ≡ Ok (z, rest)
  both_complete z used rest (both x y u v s t) k =
      let first_is : p ((u ++ v) ++ rest) ≡ Ok (x, v ++ rest) = ap p (append_assoc u v rest) ∙ g.complete x u (v ++ rest) s (meets y v rest t k) in
      rw (first_is, h.complete y v rest t k) refl

  pub good_both : Good (A × B) (p & q) (Both A B S T) E G
  good_both = record {
    explains = λ ts. both_explain ts (p ts) (g.explains ts);
    complete = both_complete;
    sample = (g.sample, h.sample);
    text = g.text ++ h.text;
    sample_is = both g.sample h.sample g.text h.text g.sample_is h.sample_is;
  }

module _ (A B : Type 0) (f : A → B) (p : Parser A) (S : A → List Lexeme → Type 0) (T : B → List Lexeme → Type 0) (E F : List Lexeme → Type 0)
    (to : (x : A) (u : List Lexeme) → S x u → T (f x) u)
    (from : (y : B) (u : List Lexeme) → T y u → (x : A) × (y ≡ f x) × S x u) where
  mapped_explains : (ts : List Lexeme) (o : Outcome A) → Explains A p S E ts o → Explains B (mapped f p) T E ts (and_then o (λ a. pure (f a)))
  mapped_explains ts (Ok r) e = record { used = e.used; parts = e.parts; spells = to r.0 e.used e.spells; follows = e.follows; again = λ other h. rw (e.again other h) refl }
  mapped_explains ts (Err halt) e = record { front = e.front; parts = e.parts; value = f e.value; others = e.others; begins = to e.value _ e.begins; again = λ other h. rw (e.again other h) refl }

  mapped_complete : (x : A) (y : B) (used rest : List Lexeme) → p (used ++ rest) ≡ Ok (x, rest) → y ≡ f x → mapped f p (used ++ rest) ≡ Ok (y, rest)
  mapped_complete x y used rest e same = rw (e, same) refl

  pub good_mapped : Good A p S E F → Good B (mapped f p) T E F
  good_mapped g = record {
    explains = λ ts. mapped_explains ts (p ts) (g.explains ts);
    complete = λ y used rest s k.
        let h = from y used s in
        mapped_complete h.0 y used rest (g.complete h.0 used rest h.2 k) h.1;
    sample = f g.sample;
    text = g.text;
    sample_is = to g.sample g.text g.sample_is;
  }

-- a reader that goes on as p does, by the first token
module _ (A : Type 0) (p r : Parser A) (S T : A → List Lexeme → Type 0) (D E : List Lexeme → Type 0) (ts : List Lexeme)
    (goes : (other : List Lexeme) → BeginAlike other ts → r other ≡ p other) (to : (x : A) (u : List Lexeme) → S x u → T x u) (after : (rest : List Lexeme) → D rest → E rest) where
  pub explains_as : (o : Outcome A) → Explains A p S D ts o → Explains A r T E ts o
  explains_as (Ok x) e = record {
    used = e.used;
    parts = e.parts;
    spells = to x.0 e.used e.spells;
    follows = after x.1 e.follows;
    again = λ other h. goes (e.used ++ other) (alike_in e.used other x.1 ts e.parts h) ∙ e.again other h;
  }
  explains_as (Err halt) e = record {
    front = e.front;
    parts = e.parts;
    value = e.value;
    others = e.others;
    begins = to e.value _ e.begins;
    again = λ other h. goes (e.front ++ other) (alike_in e.front other halt.1 ts e.parts h) ∙ e.again other h;
  }

-- the same reader, under another name of its language, where more is owed of what comes after and less is said of it
module _ (A : Type 0) (p : Parser A) (S T : A → List Lexeme → Type 0) (D E F G : List Lexeme → Type 0)
    (to : (x : A) (u : List Lexeme) → S x u → T x u) (from : (x : A) (u : List Lexeme) → T x u → S x u)
    (after : (rest : List Lexeme) → D rest → E rest) (before : (rest : List Lexeme) → G rest → F rest) where
  pub good_as : Good A p S D F → Good A p T E G
  good_as g = record {
    explains = λ ts. explains_as A p p S T D E ts (λ other h. refl) to after (p ts) (g.explains ts);
    complete = λ x used rest s k. g.complete x used rest (from x used s) (before rest k);
    sample = g.sample;
    text = g.text;
    sample_is = to g.sample g.text g.sample_is;
  }

-- ---- what was read, by what the reader answers

module _ (A : Type 0) (p : Parser A) (S : A → List Lexeme → Type 0) (E F : List Lexeme → Type 0) (g : Good A p S E F) where
  pub took : (ts : List Lexeme) (x : A) (rest : List Lexeme) → p ts ≡ Ok (x, rest) → Took A p S E ts x rest
  took ts x rest h = let P : Outcome A → Type 0 = Explains A p S E ts in subst P h (g.explains ts)

  pub halted : (ts : List Lexeme) (stop : Stop) (rest : List Lexeme) → p ts ≡ Err (stop, rest) → Halted A p S ts stop rest
  halted ts stop rest h = let P : Outcome A → Type 0 = Explains A p S E ts in subst P h (g.explains ts)

  pub no_longer : (ts : List Lexeme) (x : A) (rest : List Lexeme) → p ts ≡ Ok (x, rest) → length rest ≤ length ts
  no_longer ts x rest h = let t = took ts x rest h in omega (arith, ap length t.parts, length-append t.used rest)

  left_of_all : (ts : List Lexeme) (o : Outcome A) → Explains A p S E ts o → length (tokens_left o) ≤ length ts
  left_of_all ts (Ok r) h = let t = ap length h.parts in omega (arith, t, length-append h.used r.1)
  left_of_all ts (Err halt) h = let t = ap length h.parts in omega (arith, t, length-append h.front halt.1)

  -- a reader leaves no more than there was
  pub leaves_no_more : (ts : List Lexeme) → length (tokens_left (p ts)) ≤ length ts
  leaves_no_more ts = left_of_all ts (p ts) (g.explains ts)
