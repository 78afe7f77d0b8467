-- Readers that go by the next token: options and choices.
use Rattle.std.proofs.Common.{◌≡◌, Bool, true, false, cond, List, [], ◌∷◌, ◌++◌, Option, Some, None, Ok, Err, refl, ap, ◌∙◌}
use Rattle.ssi_lexer.specs.declared.wanted.Stop.{Stop}
use Rattle.ssi_lexer.specs.Lexemes.{Lexeme}
use Rattle.ssi_lexer.specs.TokenTests.{sees}
use Rattle.ssi_lexer.specs.Languages.{Optional, absent, present}
use Rattle.ssi_lexer.specs.Parsers.{Parser, mapped, maybe, either}
use Rattle.ssi_lexer.specs.Laws.{BeginAlike, StartsWith, Lacks, Always, Explains, Good}
use Rattle.ssi_lexer.proofs.Joining.{explains_as, good_mapped}

-- tokens that begin alike pass the same tests
pub sees_alike : (test : Lexeme → Bool) (a b : List Lexeme) → BeginAlike a b → sees test a ≡ sees test b
sees_alike test [] [] e = refl
sees_alike test [] (t ∷ b) e = absurd cc
sees_alike test (s ∷ a) [] e = absurd cc
sees_alike test (s ∷ a) (t ∷ b) e = let same : s ≡ t = cc in ap test same

-- so do tokens with the same first ones
pub sees_started : (test : Lexeme → Bool) (u rest : List Lexeme) → StartsWith test u → sees test (u ++ rest) ≡ true
sees_started test u rest h = rw h.parts h.passes

-- no token comes next that passes the test, and F holds
pub record Without (test : Lexeme → Bool) (F : List Lexeme → Type 0) (rest : List Lexeme) : Type 0 where
  pub lacks : Lacks test rest
  pub too : F rest

module _ (A : Type 0) (test : Lexeme → Bool) (p : Parser A) (S : A → List Lexeme → Type 0) (E F : List Lexeme → Type 0)
    (starts : (x : A) (u : List Lexeme) → S x u → StartsWith test u) (g : Good A p S E F) where
  data Present : Option A → List Lexeme → Type 0 where
    here : (x : A) (u : List Lexeme) → S x u → Present (Some x) u

  good_present : Good (Option A) (mapped Some p) Present E F
  good_present = good_mapped A (Option A) Some p S Present E F here from_present g
    where
      from_present : (y : Option A) (u : List Lexeme) → Present y u → (x : A) × (y ≡ Some x) × S x u
      from_present y u (here x v s) = (x, refl, s)

  to_optional : (y : Option A) (u : List Lexeme) → Present y u → Optional A S y u
  to_optional y u (here x v s) = present x v s

  maybe_goes : (ts other : List Lexeme) → sees test ts ≡ true → BeginAlike other ts → maybe test p other ≡ mapped Some p other
  unfolding maybe
  maybe_goes ts other e h = let same : sees test other ≡ true = sees_alike test other ts h ∙ e in rw same refl

  maybe_stays : (ts other : List Lexeme) → sees test ts ≡ false → BeginAlike other ts → maybe test p other ≡ Ok (None, other)
  unfolding maybe
  maybe_stays ts other e h = let same : sees test other ≡ false = sees_alike test other ts h ∙ e in rw same refl

  explains_by : (ts : List Lexeme) (b : Bool) → sees test ts ≡ b → Explains (Option A) (maybe test p) (Optional A S) Always ts (cond b (mapped Some p ts) (Ok (None, ts)))
  explains_by ts true e = explains_as (Option A) (mapped Some p) (maybe test p) Present (Optional A S) E Always ts (λ other h. maybe_goes ts other e h) to_optional (λ rest k. tt) (mapped Some p ts) (good_present.explains ts)
  explains_by ts false e = record { used = []; parts = refl; spells = absent; follows = tt; again = λ other h. maybe_stays ts other e h }

  maybe_explains : (ts : List Lexeme) → Explains (Option A) (maybe test p) (Optional A S) Always ts (maybe test p ts)
  unfolding maybe
  maybe_explains ts = explains_by ts (sees test ts) refl

  maybe_complete : (x : Option A) (used rest : List Lexeme) → Optional A S x used → Without test F rest → maybe test p (used ++ rest) ≡ Ok (x, rest)
  unfolding maybe
  maybe_complete x used rest absent k = rw k.lacks refl
  maybe_complete x used rest (present y u s) k = rw (sees_started test u rest (starts y u s), g.complete y u rest s k.too) refl

  pub good_maybe : Good (Option A) (maybe test p) (Optional A S) Always (Without test F)
  good_maybe = record { explains = maybe_explains; complete = maybe_complete; sample = None; text = []; sample_is = absent }

-- the language of the one, or of the other
pub data OneOf (A : Type 0) (S T : A → List Lexeme → Type 0) : A → List Lexeme → Type 0 where
  the_one : (x : A) (u : List Lexeme) → S x u → OneOf A S T x u
  the_other : (x : A) (u : List Lexeme) → T x u → OneOf A S T x u

module _ (A : Type 0) (test : Lexeme → Bool) (p q : Parser A) (S T : A → List Lexeme → Type 0) (E F : List Lexeme → Type 0)
    (starts : (x : A) (u : List Lexeme) → S x u → StartsWith test u) (lacks : (x : A) (u rest : List Lexeme) → T x u → F rest → Lacks test (u ++ rest))
    (g : Good A p S E F) (h : Good A q T E F) where
  either_goes : (ts other : List Lexeme) → sees test ts ≡ true → BeginAlike other ts → either test p q other ≡ p other
  unfolding either
  either_goes ts other e k = let same : sees test other ≡ true = sees_alike test other ts k ∙ e in rw same refl

  either_stays : (ts other : List Lexeme) → sees test ts ≡ false → BeginAlike other ts → either test p q other ≡ q other
  unfolding either
  either_stays ts other e k = let same : sees test other ≡ false = sees_alike test other ts k ∙ e in rw same refl

  either_by : (ts : List Lexeme) (b : Bool) → sees test ts ≡ b → Explains A (either test p q) (OneOf A S T) E ts (cond b (p ts) (q ts))
  either_by ts true e = explains_as A p (either test p q) S (OneOf A S T) E E ts (λ other k. either_goes ts other e k) the_one (λ rest k. k) (p ts) (g.explains ts)
  either_by ts false e = explains_as A q (either test p q) T (OneOf A S T) E E ts (λ other k. either_stays ts other e k) the_other (λ rest k. k) (q ts) (h.explains ts)

  either_explains : (ts : List Lexeme) → Explains A (either test p q) (OneOf A S T) E ts (either test p q ts)
  unfolding either
  either_explains ts = either_by ts (sees test ts) refl

  either_complete : (x : A) (used rest : List Lexeme) → OneOf A S T x used → F rest → either test p q (used ++ rest) ≡ Ok (x, rest)
  unfolding either
  either_complete x used rest (the_one y u s) k = rw (sees_started test u rest (starts y u s)) (g.complete y u rest s k)
  either_complete x used rest (the_other y u t) k = rw (lacks y u rest t k) (h.complete y u rest t k)

  pub good_either : Good A (either test p q) (OneOf A S T) E F
  good_either = record { explains = either_explains; complete = either_complete; sample = g.sample; text = g.text; sample_is = the_one g.sample g.text g.sample_is }

-- a reader that stops where such a token comes, and else reads
module _ (A : Type 0) (test : Lexeme → Bool) (stop : Stop) (p q : Parser A) (T : A → List Lexeme → Type 0) (E F : List Lexeme → Type 0)
    (stops : (ts : List Lexeme) → p ts ≡ Err (stop, ts)) (lacks : (x : A) (u rest : List Lexeme) → T x u → F rest → Lacks test (u ++ rest)) (h : Good A q T E F) where
  stop_goes : (ts other : List Lexeme) → sees test ts ≡ true → BeginAlike other ts → either test p q other ≡ Err (stop, other)
  unfolding either
  stop_goes ts other e k = let same : sees test other ≡ true = sees_alike test other ts k ∙ e in rw same (stops other)

  stop_stays : (ts other : List Lexeme) → sees test ts ≡ false → BeginAlike other ts → either test p q other ≡ q other
  unfolding either
  stop_stays ts other e k = let same : sees test other ≡ false = sees_alike test other ts k ∙ e in rw same refl

  stop_by : (ts : List Lexeme) (b : Bool) → sees test ts ≡ b → Explains A (either test p q) T E ts (cond b (Err (stop, ts)) (q ts))
  stop_by ts true e = record { front = []; parts = refl; value = h.sample; others = h.text; begins = h.sample_is; again = λ other k. stop_goes ts other e k }
  stop_by ts false e = explains_as A q (either test p q) T T E E ts (λ other k. stop_stays ts other e k) (λ x u t. t) (λ rest k. k) (q ts) (h.explains ts)

  stop_explains : (ts : List Lexeme) → Explains A (either test p q) T E ts (either test p q ts)
  unfolding either
  stop_explains ts = rw (stops ts) (stop_by ts (sees test ts) refl)

  stop_complete : (x : A) (used rest : List Lexeme) → T x used → F rest → either test p q (used ++ rest) ≡ Ok (x, rest)
  unfolding either
  stop_complete x used rest t k = rw (lacks x used rest t k) (h.complete x used rest t k)

  pub good_either_stop : Good A (either test p q) T E F
  good_either_stop = record { explains = stop_explains; complete = stop_complete; sample = h.sample; text = h.text; sample_is = h.sample_is }
