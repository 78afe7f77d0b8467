-- A reader of a language answers what the language says: the value that is spelled, or the first place where no spelling goes on.
use Rattle.std.proofs.Common.{◌≡◌, Bool, false, List, [], ◌∷◌, ◌++◌, Ok, Err, refl, sym, ap, subst, ◌∙◌, append_assoc}
use Rattle.std.proofs.lemmas.List.{append-nil}
use Rattle.ssi_base.specs.declared.place.Place.{Place}
use Rattle.ssi_lexer.specs.declared.token.TextEnd.{TextEnd}
use Rattle.ssi_lexer.specs.declared.token.TextEnd.TheVariants.{Finished, Faulty}
use Rattle.ssi_lexer.specs.declared.wanted.Stop.{Stop}
use Rattle.ssi_lexer.specs.Lexemes.{Lexeme}
use Rattle.ssi_lexer.specs.TokenTests.{Is}
use Rattle.ssi_lexer.specs.Parsers.{Outcome, Parser}
use Rattle.ssi_lexer.specs.Laws.{BeginAlike, Good}
use Rattle.ssi_lexer.specs.Spelling.{Begins, NeedsMore, WithEnd, IsEnded, Takes, FitsNothing, FirstFault, HasOneValue, next_place}
use Rattle.ssi_lexer.proofs.Joining.{took, halted}

-- ---- two answers of one reader

abbrev read_as : {A : Type 0} → A → List Lexeme → Outcome A
read_as x rest = Ok (x, rest)

abbrev value_or : {A : Type 0} → A → Outcome A → A
value_or x (Ok r) = r.0
value_or x (Err halt) = x

abbrev rest_or : {A : Type 0} → List Lexeme → Outcome A → List Lexeme
rest_or rest (Ok r) = r.1
rest_or rest (Err halt) = rest

pub value_is : (A : Type 0) (a b : A) (more rest : List Lexeme) → read_as a more ≡ read_as b rest → a ≡ b
value_is A a b more rest e = ap (value_or a) e

pub rest_is : (A : Type 0) (a b : A) (more rest : List Lexeme) → read_as a more ≡ read_as b rest → more ≡ rest
rest_is A a b more rest e = ap (rest_or more) e

pub first_is : (s t : Lexeme) (more rest : List Lexeme) → s ∷ more ≡ t ∷ rest → s ≡ t
first_is s t more rest e = cc

pub not_both : (A : Type 0) (o : Outcome A) (halt : Stop × List Lexeme) (x : A) (rest : List Lexeme) → o ≡ Err halt → o ≡ Ok (x, rest) → ⊥
not_both A o halt x rest e h = absurd cc

-- ---- readers of a language whose values end before such a token, and at the end of the text

-- what has to come after a value comes at the end of the text and before a token that ends it; `some` is such a token
pub record Follows (F : List Lexeme → Type 0) (ends : Lexeme → Bool) : Type 0 where
  pub at_end : F []
  pub before : (t : Lexeme) (ts : List Lexeme) → Is ends t → F (t ∷ ts)
  pub some : Lexeme
  pub some_is : Is ends some

module _ (A : Type 0) (p : Parser A) (S : A → List Lexeme → Type 0) (E F : List Lexeme → Type 0) (good : Good A p S E F) (ends : Lexeme → Bool) (follows : Follows F ends) where
  -- where a value ends, what has to come after it does
  ended_follows : (rest : List Lexeme) (end : TextEnd) → IsEnded ends rest end → F rest
  ended_follows [] (Finished place) e = follows.at_end
  ended_follows [] (Faulty fault) e = absurd e
  ended_follows (t ∷ ts) end e = follows.before t ts e

  -- what is taken is read
  pub takes_is : (left : List Lexeme) (end : TextEnd) (x : A) (rest : List Lexeme) → Takes A S ends left end x rest → p left ≡ Ok (x, rest)
  takes_is left end x rest t = ap p t.parts ∙ good.complete x t.used rest t.spells (ended_follows rest end t.ended)

  pub one_value : HasOneValue A S
  one_value a b tokens s t =
      let first = good.complete a tokens [] s follows.at_end in
      let second = good.complete b tokens [] t follows.at_end in
      value_is A a b [] [] (sym first ∙ second)

  -- what is read and ends is taken
  pub found : (left : List Lexeme) (end : TextEnd) (x : A) (rest : List Lexeme) → p left ≡ Ok (x, rest) → IsEnded ends rest end → Takes A S ends left end x rest
  found left end x rest e ended =
      let t = took A p S E F good left x rest e in
      record { used = t.used; parts = t.parts; spells = t.spells; ended = ended }

  -- a spelling with its end goes on where a spelling begins
  pub begins_with_end : (front : List Lexeme) (x : A) (further : List Lexeme) → S x (front ++ further) → NeedsMore A (WithEnd A S ends) front
  begins_with_end front x [] s = record {
    value = x;
    next = follows.some;
    further = [];
    spells = record { used = front; last = follows.some; parts = refl; spells = subst (S x) (append-nil front) s; ends_it = follows.some_is };
  }
  begins_with_end front x (t ∷ ts) s = record {
    value = x;
    next = t;
    further = ts ++ (follows.some ∷ []);
    spells = record { used = front ++ (t ∷ ts); last = follows.some; parts = sym (append_assoc front (t ∷ ts) (follows.some ∷ [])); spells = s; ends_it = follows.some_is };
  }

  -- a spelling with its end is read up to the end
  pub end_read : (x : A) (tokens : List Lexeme) (w : WithEnd A S ends x tokens) → p tokens ≡ Ok (x, w.last ∷ [])
  end_read x tokens w = ap p w.parts ∙ good.complete x w.used (w.last ∷ []) w.spells (follows.before w.last [] w.ends_it)

  -- no spelling begins with the tokens up to the one where the reader stops
  pub none_begins : (front : List Lexeme) (t : Lexeme) (stop : Stop) → ((other : List Lexeme) → BeginAlike other (t ∷ []) → p (front ++ other) ≡ Err (stop, other)) → ¬ Begins A (WithEnd A S ends) (front ++ (t ∷ []))
  none_begins front t stop again b =
      let whole : (front ++ (t ∷ [])) ++ b.further ≡ front ++ (t ∷ b.further) = append_assoc front (t ∷ []) b.further in
      not_both A (p ((front ++ (t ∷ [])) ++ b.further)) (stop, t ∷ b.further) b.value (b.spells.last ∷ []) (ap p whole ∙ again (t ∷ b.further) refl) (end_read b.value _ b.spells)

  -- nor with what was read and a token that doesn't end it
  pub none_ends : (front : List Lexeme) (t : Lexeme) (x : A) → ends t ≡ false → ((other : List Lexeme) → BeginAlike other (t ∷ []) → p (front ++ other) ≡ Ok (x, other)) → ¬ Begins A (WithEnd A S ends) (front ++ (t ∷ []))
  none_ends front t x unended again b =
      let whole : (front ++ (t ∷ [])) ++ b.further ≡ front ++ (t ∷ b.further) = append_assoc front (t ∷ []) b.further in
      let same = sym (ap p whole ∙ again (t ∷ b.further) refl) ∙ end_read b.value _ b.spells in
      let last : t ≡ b.spells.last = first_is t b.spells.last b.further [] (rest_is A x b.value (t ∷ b.further) (b.spells.last ∷ []) same) in
      let is : Is ends t = subst (Is ends) (sym last) b.spells.ends_it in
      absurd cc

  pub fits_nothing : (front rest : List Lexeme) (end : TextEnd) (place : Place) (stop : Stop) → next_place rest end ≡ Ok place → ((other : List Lexeme) → BeginAlike other rest → p (front ++ other) ≡ Err (stop, other))
      → FitsNothing A S ends front rest end place
  fits_nothing front [] (Finished past) place stop e again = (cc, λ x s. not_both A (p (front ++ [])) (stop, []) x [] (again [] refl) (good.complete x front [] s follows.at_end))
  fits_nothing front [] (Faulty fault) place stop e again = absurd cc
  fits_nothing front (t ∷ ts) end place stop e again = (cc, none_begins front t stop again)

  -- the reader stops at the first fault
  pub stopped_first : (left rest : List Lexeme) (end : TextEnd) (place : Place) (stop : Stop) → p left ≡ Err (stop, rest) → next_place rest end ≡ Ok place → FirstFault A S S ends left end place
  stopped_first left rest end place stop e at =
      let h = halted A p S E F good left stop rest e in
      record { front = h.front; rest = rest; parts = h.parts; begins = begins_with_end h.front h.value h.others h.begins; fault = fits_nothing h.front rest end place stop at h.again }

  -- a token that doesn't end what was read is the first fault
  pub unended_first : (left : List Lexeme) (end : TextEnd) (x : A) (t : Lexeme) (ts : List Lexeme) → p left ≡ Ok (x, t ∷ ts) → ends t ≡ false → FirstFault A S S ends left end t.place
  unended_first left end x t ts e unended =
      let h = took A p S E F good left x (t ∷ ts) e in
      record {
        front = h.used;
        rest = t ∷ ts;
        parts = h.parts;
        begins = begins_with_end h.used x [] (subst (S x) (sym (append-nil h.used)) h.spells);
        fault = (refl, none_ends h.used t x unended h.again);
      }

  -- where no token is left, those before begin a spelling
  pub stopped_inside : (left : List Lexeme) (stop : Stop) → p left ≡ Err (stop, []) → Begins A S left
  stopped_inside left stop e =
      let h = halted A p S E F good left stop [] e in
      let all : left ≡ h.front = h.parts ∙ append-nil h.front in
      record { value = h.value; further = h.others; spells = subst (λ (front : List Lexeme). S h.value (front ++ h.others)) (sym all) h.begins }

  pub read_inside : (left : List Lexeme) (x : A) → p left ≡ Ok (x, []) → Begins A S left
  read_inside left x e =
      let h = took A p S E F good left x [] e in
      let same : h.used ≡ left ++ [] = sym (append-nil h.used) ∙ sym h.parts ∙ sym (append-nil left) in
      record { value = x; further = []; spells = subst (S x) same h.spells }
