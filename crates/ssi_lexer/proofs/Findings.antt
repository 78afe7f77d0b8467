-- What a reader finds in tokens and their end, and that there is one such thing: for readers of languages by depth, and of
-- languages without levels.
use Rattle.std.proofs.Common.{◌≡◌, ℕ, suc, Bool, true, false, List, [], ◌∷◌, ◌++◌, Ok, Err, refl, sym, ap, subst, ◌∙◌, append_assoc}
use Rattle.std.proofs.lemmas.List.{append-nil}
use Rattle.ssi_base.specs.declared.place.Place.{Place}
use Rattle.ssi_lexer.specs.declared.token.LexFault.{LexFault}
use Rattle.ssi_lexer.specs.declared.token.TextEnd.{TextEnd}
use Rattle.ssi_lexer.specs.declared.token.TextEnd.TheVariants.{Finished, Faulty}
use Rattle.ssi_lexer.specs.declared.wanted.Stop.{Stop}
use Rattle.ssi_lexer.specs.declared.wanted.Stop.TheVariants as s
use Rattle.ssi_lexer.specs.Lexemes.{Lexeme}
use Rattle.ssi_lexer.specs.TokenTests.{Is}
use Rattle.ssi_lexer.specs.Parsers.{Outcome, Parser}
use Rattle.ssi_lexer.specs.Laws.{Good, Deepens, Deep}
use Rattle.ssi_lexer.specs.Spelling.{AtAnyDepth, Begins, NeedsMore, WithEnd, IsEnded, Takes, FitsNothing, FirstFault, FirstTooDeep, StopsInside, Finding, taken, no_spelling, level_too_deep, no_token, Finds, HasOneFinding, next_place}
use Rattle.ssi_lexer.proofs.Spellings as spelling
use Rattle.ssi_lexer.proofs.Spellings.{Follows}
use Rattle.ssi_lexer.proofs.OneAnswer as one
use Rattle.ssi_lexer.proofs.OneAnswer.{Compared, longer, shorter, compared}
use Rattle.ssi_lexer.proofs.Depths as depths

-- what a reader finds: S is the language within the depths, M the one that leaves them aside
pub record FindsBy (A : Type 0) (p : Parser A) (S M : A → List Lexeme → Type 0) (ends : Lexeme → Bool) : Type 0 where
  -- what is taken is read, and what is read and ends is taken
  pub takes_is : (left : List Lexeme) (end : TextEnd) (x : A) (rest : List Lexeme) → Takes A S ends left end x rest → p left ≡ Ok (x, rest)
  pub found : (left : List Lexeme) (end : TextEnd) (x : A) (rest : List Lexeme) → p left ≡ Ok (x, rest) → IsEnded ends rest end → Takes A S ends left end x rest
  -- the first fault, and the first level too deep
  pub unended : (left : List Lexeme) (end : TextEnd) (x : A) (t : Lexeme) (ts : List Lexeme) → p left ≡ Ok (x, t ∷ ts) → ends t ≡ false → FirstFault A S M ends left end t.place
  pub stopped : (left rest : List Lexeme) (end : TextEnd) (place : Place) → p left ≡ Err (s.Syntax, rest) → next_place rest end ≡ Ok place → FirstFault A S M ends left end place
  pub too_deep : (left : List Lexeme) (t : Lexeme) (ts : List Lexeme) → p left ≡ Err (s.TooDeep, t ∷ ts) → FirstTooDeep A S M ends left t.place
  pub not_at_end : (left : List Lexeme) → p left ≡ Err (s.TooDeep, []) → ⊥
  pub no_memory : (left rest : List Lexeme) → p left ≡ Err (s.Memory, rest) → ⊥
  -- where no token is left, those before begin a spelling
  pub read_inside : (left : List Lexeme) (x : A) → p left ≡ Ok (x, []) → Begins A S left
  pub stopped_inside : (left : List Lexeme) (stop : Stop) → p left ≡ Err (stop, []) → Begins A S left

-- ---- one language within another

module _ (A : Type 0) (S M : A → List Lexeme → Type 0) (ends : Lexeme → Bool) (within : (x : A) (u : List Lexeme) → S x u → M x u) where
  with_end : (front : List Lexeme) → Begins A (WithEnd A S ends) front → Begins A (WithEnd A M ends) front
  with_end front b = record {
    value = b.value;
    further = b.further;
    spells = record { used = b.spells.used; last = b.spells.last; parts = b.spells.parts; spells = within b.value b.spells.used b.spells.spells; ends_it = b.spells.ends_it };
  }

  pub fits_less : (front rest : List Lexeme) (end : TextEnd) (place : Place) → FitsNothing A M ends front rest end place → FitsNothing A S ends front rest end place
  fits_less front [] (Finished past) place f = (f.0, λ x h. f.1 x (within x front h))
  fits_less front [] (Faulty fault) place f = f
  fits_less front (t ∷ ts) end place f = (f.0, λ b. f.1 (with_end (front ++ (t ∷ [])) b))

  -- a fault with depths left aside is one within them
  pub fault_within : (left : List Lexeme) (end : TextEnd) (place : Place) → FirstFault A S M ends left end place → FirstFault A S S ends left end place
  fault_within left end place f = record { front = f.front; rest = f.rest; parts = f.parts; begins = f.begins; fault = fits_less f.front f.rest end place f.fault }

  -- so is a level too deep
  pub deep_within : (left : List Lexeme) (end : TextEnd) (place : Place) → FirstTooDeep A S M ends left place → FirstFault A S S ends left end place
  deep_within left end place f = record { front = f.front; rest = f.opener ∷ f.rest; parts = f.parts; begins = f.begins; fault = (f.there, f.too_deep) }

  -- a spelling goes on to its end
  begins_to_end : (some : Lexeme) → Is ends some → (front : List Lexeme) → Begins A M front → Begins A (WithEnd A M ends) front
  begins_to_end some is front b = record {
    value = b.value;
    further = b.further ++ (some ∷ []);
    spells = record { used = front ++ b.further; last = some; parts = sym (append_assoc front b.further (some ∷ [])); spells = b.spells; ends_it = is };
  }

  not_both_by : (some : Lexeme) → Is ends some → (left : List Lexeme) (end : TextEnd) (p q : Place) (f : FirstFault A S M ends left end p) (g : FirstTooDeep A S M ends left q)
      → Compared f.front g.front f.rest (g.opener ∷ g.rest) → ⊥
  not_both_by some is left end p q f g (longer [] same rest) =
      let b = begins_to_end some is (g.front ++ (g.opener ∷ [])) g.deeper in
      let fault : FitsNothing A M ends f.front (g.opener ∷ g.rest) end p = subst (λ (ts : List Lexeme). FitsNothing A M ends f.front ts end p) rest f.fault in
      fault.1 (subst (λ (front : List Lexeme). Begins A (WithEnd A M ends) (front ++ (g.opener ∷ []))) (same ∙ append-nil f.front) b)
  not_both_by some is left end p q f g (longer (t ∷ e) same rest) =
      let b = with_end g.front (one.begins_of A (WithEnd A S ends) g.front g.begins) in
      let fault : FitsNothing A M ends f.front (t ∷ (e ++ (g.opener ∷ g.rest))) end p = subst (λ (ts : List Lexeme). FitsNothing A M ends f.front ts end p) rest f.fault in
      fault.1 (one.begins_less A (WithEnd A M ends) f.front t e (subst (Begins A (WithEnd A M ends)) same b))
  not_both_by some is left end p q f g (shorter t e same rest) =
      let b = one.begins_of A (WithEnd A S ends) f.front f.begins in
      let opener : t ≡ g.opener = sym (spelling.first_is g.opener t g.rest (e ++ f.rest) rest) in
      g.too_deep (subst (λ (x : Lexeme). Begins A (WithEnd A S ends) (g.front ++ (x ∷ []))) opener (one.begins_less A (WithEnd A S ends) g.front t e (subst (Begins A (WithEnd A S ends)) same b)))

  pub fault_not_too_deep : (some : Lexeme) → Is ends some → (left : List Lexeme) (end : TextEnd) (p q : Place) → FirstFault A S M ends left end p → ¬ FirstTooDeep A S M ends left q
  fault_not_too_deep some is left end p q f g = not_both_by some is left end p q f g (compared f.front g.front f.rest (g.opener ∷ g.rest) (sym f.parts ∙ g.parts))

-- ---- one of them is there, and one only

module _ (A : Type 0) (p : Parser A) (S M : A → List Lexeme → Type 0) (ends : Lexeme → Bool) (finds : FindsBy A p S M ends) where
  -- some finding, which is there
  abbrev Some : List Lexeme → TextEnd → Type 0
  Some left end = (found : Finding A) × Finds A S M ends left end found

  read_by : (left : List Lexeme) (end : TextEnd) (x : A) (t : Lexeme) (ts : List Lexeme) → p left ≡ Ok (x, t ∷ ts) → (b : Bool) → ends t ≡ b → Some left end
  read_by left end x t ts e true is = (taken x (t ∷ ts), finds.found left end x (t ∷ ts) e is)
  read_by left end x t ts e false is = (no_spelling t.place, finds.unended left end x t ts e is)

  some_read : (left : List Lexeme) (end : TextEnd) (x : A) (rest : List Lexeme) → p left ≡ Ok (x, rest) → Some left end
  some_read left (Finished past) x [] e = (taken x [], finds.found left (Finished past) x [] e tt)
  some_read left (Faulty fault) x [] e = (no_token fault, record { begins = finds.read_inside left x e; faulty = refl })
  some_read left end x (t ∷ ts) e = read_by left end x t ts e (ends t) refl

  some_stopped : (left : List Lexeme) (end : TextEnd) (stop : Stop) (rest : List Lexeme) → p left ≡ Err (stop, rest) → Some left end
  some_stopped left (Finished past) s.Syntax [] e = (no_spelling past, finds.stopped left [] (Finished past) past e refl)
  some_stopped left (Faulty fault) s.Syntax [] e = (no_token fault, record { begins = finds.stopped_inside left s.Syntax e; faulty = refl })
  some_stopped left end s.Syntax (t ∷ ts) e = (no_spelling t.place, finds.stopped left (t ∷ ts) end t.place e refl)
  some_stopped left end s.TooDeep [] e = absurd (finds.not_at_end left e)
  some_stopped left end s.TooDeep (t ∷ ts) e = (level_too_deep t.place, finds.too_deep left t ts e)
  some_stopped left end s.Memory rest e = absurd (finds.no_memory left rest e)

  some_by : (left : List Lexeme) (end : TextEnd) (o : Outcome A) → p left ≡ o → Some left end
  some_by left end (Ok r) e = some_read left end r.0 r.1 e
  some_by left end (Err halt) e = some_stopped left end halt.0 halt.1 e

  some_finding : (left : List Lexeme) (end : TextEnd) → Some left end
  some_finding left end = some_by left end (p left) refl

module _ (A : Type 0) (p : Parser A) (S M : A → List Lexeme → Type 0) (E F : List Lexeme → Type 0) (good : Good A p S E F) (ends : Lexeme → Bool) (follows : Follows F ends)
    (within : (x : A) (u : List Lexeme) → S x u → M x u) (left : List Lexeme) (end : TextEnd) where
  abbrev There : Finding A → Type 0
  There = Finds A S M ends left end

  -- a fault and a level too deep are faults within the depths
  fault : (place : Place) → There (no_spelling place) → FirstFault A S S ends left end place
  fault place f = fault_within A S M ends within left end place f

  deep : (place : Place) → There (level_too_deep place) → FirstFault A S S ends left end place
  deep place f = deep_within A S M ends within left end place f

  same_taken : (x y : A) (rest more : List Lexeme) → (x ≡ y) × (rest ≡ more) → taken x rest ≡ taken y more
  same_taken x y rest more same = ap (λ z. taken z rest) same.0 ∙ ap (taken y) same.1

  same_token : (a b : LexFault) → end ≡ Faulty a → end ≡ Faulty b → a ≡ b
  same_token a b e h = cc

  -- where one is there, no other is
  one_there : (a b : Finding A) → There a → There b → a ≡ b
  one_there (taken x rest) (taken y more) t u = same_taken x y rest more (one.one_taken A p S E F good ends follows left end x y rest more t u)
  one_there (taken x rest) (no_spelling q) t g = absurd (one.taken_has_no_fault A p S E F good ends follows left end x rest q t (fault q g))
  one_there (taken x rest) (level_too_deep q) t g = absurd (one.taken_has_no_fault A p S E F good ends follows left end x rest q t (deep q g))
  one_there (taken x rest) (no_token b) t j = absurd (one.taken_not_inside A p S E F good ends follows left end x rest b t j)
  one_there (no_spelling a) (taken y more) f u = absurd (one.taken_has_no_fault A p S E F good ends follows left end y more a u (fault a f))
  one_there (no_spelling a) (no_spelling b) f g = ap no_spelling (one.one_fault A p S E F good ends follows left end a b (fault a f) (fault b g))
  one_there (no_spelling a) (level_too_deep b) f g = absurd (fault_not_too_deep A S M ends within follows.some follows.some_is left end a b f g)
  one_there (no_spelling a) (no_token b) f j = absurd (one.inside_has_no_fault A p S E F good ends follows left end a b j (fault a f))
  one_there (level_too_deep a) (taken y more) f u = absurd (one.taken_has_no_fault A p S E F good ends follows left end y more a u (deep a f))
  one_there (level_too_deep a) (no_spelling b) f g = absurd (fault_not_too_deep A S M ends within follows.some follows.some_is left end b a g f)
  one_there (level_too_deep a) (level_too_deep b) f g = ap level_too_deep (one.one_fault A p S E F good ends follows left end a b (deep a f) (deep b g))
  one_there (level_too_deep a) (no_token b) f j = absurd (one.inside_has_no_fault A p S E F good ends follows left end a b j (deep a f))
  one_there (no_token a) (taken y more) i u = absurd (one.taken_not_inside A p S E F good ends follows left end y more a u i)
  one_there (no_token a) (no_spelling b) i g = absurd (one.inside_has_no_fault A p S E F good ends follows left end b a i (fault b g))
  one_there (no_token a) (level_too_deep b) i g = absurd (one.inside_has_no_fault A p S E F good ends follows left end b a i (deep b g))
  one_there (no_token a) (no_token b) i j = ap no_token (same_token a b i.faulty j.faulty)

module _ (A : Type 0) (p : Parser A) (S M : A → List Lexeme → Type 0) (E F : List Lexeme → Type 0) (good : Good A p S E F) (ends : Lexeme → Bool) (follows : Follows F ends)
    (within : (x : A) (u : List Lexeme) → S x u → M x u) (finds : FindsBy A p S M ends) where
  -- any tokens and their end have exactly one finding in them
  one_of_all : HasOneFinding A (Finds A S M ends)
  one_of_all = record { some = some_finding A p S M ends finds; one = one_there A p S M E F good ends follows within }

-- ---- a language by depth

module _ (A : Type 0) (p : ℕ → Parser A) (S : ℕ → A → List Lexeme → Type 0) (E F : List Lexeme → Type 0) (deep : Deep A p S E F) (ends : Lexeme → Bool) (follows : Follows F ends) (depth : ℕ) where
  pub deep_finds : FindsBy A (p depth) (S depth) (AtAnyDepth A S) ends
  deep_finds = record {
    takes_is = spelling.takes_is A (p depth) (S depth) E F (deep.good depth) ends follows;
    found = spelling.found A (p depth) (S depth) E F (deep.good depth) ends follows;
    unended = depths.unended_first A p S E F deep ends follows depth;
    stopped = depths.stopped_first A p S E F deep ends follows depth;
    too_deep = depths.too_deep_first A p S E F deep ends follows depth;
    not_at_end = depths.not_at_end A p S E F deep ends follows depth;
    no_memory = depths.no_memory A p S E F deep ends follows depth;
    read_inside = spelling.read_inside A (p depth) (S depth) E F (deep.good depth) ends follows;
    stopped_inside = spelling.stopped_inside A (p depth) (S depth) E F (deep.good depth) ends follows;
  }

  pub deep_finding : HasOneFinding A (Finds A (S depth) (AtAnyDepth A S) ends)
  deep_finding = one_of_all A (p depth) (S depth) (AtAnyDepth A S) E F (deep.good depth) ends follows (λ x u h. (depth, h)) deep_finds

-- ---- a language without levels

module _ (A : Type 0) (p : Parser A) (S : A → List Lexeme → Type 0) (E F : List Lexeme → Type 0) (good : Good A p S E F) (deepens : Deepens A p p) (ends : Lexeme → Bool) (follows : Follows F ends) where
  abbrev at_each : Deep A (λ depth. p) (λ depth. S) E F
  at_each = record { good = λ depth. good; deepens = λ depth. deepens }

  -- it has no level too deep
  pub none_too_deep : (left : List Lexeme) (place : Place) → ¬ FirstTooDeep A S S ends left place
  none_too_deep left place f =
      f.too_deep (begins_to_end A S S ends (λ x u h. h) follows.some follows.some_is (f.front ++ (f.opener ∷ [])) f.deeper)

  flat_of : (left : List Lexeme) (end : TextEnd) (place : Place) → FirstFault A S (AtAnyDepth A (λ depth. S)) ends left end place → FirstFault A S S ends left end place
  flat_of left end place f = fault_within A S (AtAnyDepth A (λ depth. S)) ends (λ x u h. (0, h)) left end place f

  -- the reader stops at no level
  never_deep : (left rest : List Lexeme) → p left ≡ Err (s.TooDeep, rest) → ⊥
  never_deep left [] e = depths.not_at_end A (λ depth. p) (λ depth. S) E F at_each ends follows 0 left e
  never_deep left (t ∷ ts) e =
      let f = depths.too_deep_first A (λ depth. p) (λ depth. S) E F at_each ends follows 0 left t ts e in
      none_too_deep left t.place (record {
        front = f.front;
        opener = f.opener;
        rest = f.rest;
        parts = f.parts;
        begins = f.begins;
        deeper = record { value = f.deeper.value; further = f.deeper.further; spells = f.deeper.spells.1 };
        too_deep = f.too_deep;
        there = f.there;
      })

  pub flat_finds : FindsBy A p S S ends
  flat_finds = record {
    takes_is = spelling.takes_is A p S E F good ends follows;
    found = spelling.found A p S E F good ends follows;
    unended = λ left end x t ts e is. flat_of left end t.place (depths.unended_first A (λ depth. p) (λ depth. S) E F at_each ends follows 0 left end x t ts e is);
    stopped = λ left rest end place e at. flat_of left end place (depths.stopped_first A (λ depth. p) (λ depth. S) E F at_each ends follows 0 left rest end place e at);
    too_deep = λ left t ts e. absurd (never_deep left (t ∷ ts) e);
    not_at_end = λ left e. never_deep left [] e;
    no_memory = λ left rest e. depths.no_memory A (λ depth. p) (λ depth. S) E F at_each ends follows 0 left rest e;
    read_inside = spelling.read_inside A p S E F good ends follows;
    stopped_inside = spelling.stopped_inside A p S E F good ends follows;
  }

  pub flat_finding : HasOneFinding A (Finds A S S ends)
  flat_finding = one_of_all A p S S E F good ends follows (λ x u h. h) flat_finds
