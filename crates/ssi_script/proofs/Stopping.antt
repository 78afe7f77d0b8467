-- Where a reader stops, its tokens are misspelled, and no tokens are misspelled at two places or spelled besides. A value's tokens begin no longer spelling.
use Rattle.std.proofs.Common.{◌≡◌, List, [], ◌∷◌, ◌++◌, Ok, Err, refl, sym, ap, subst, ◌∙◌, append_assoc}
use Rattle.std.proofs.lemmas.List.{append-nil}
use Rattle.ssi_base.specs.declared.place.Place.{Place}
use Rattle.ssi_lexer.specs.declared.token.TextEnd.{TextEnd}
use Rattle.ssi_lexer.specs.declared.token.TextEnd.TheVariants.{Finished, Faulty}
use Rattle.ssi_lexer.specs.declared.wanted.Stop.{Stop}
use Rattle.ssi_lexer.specs.Lexemes.{Lexeme}
use Rattle.ssi_lexer.specs.Parsers.{Outcome, Parser}
use Rattle.ssi_lexer.specs.Laws.{Always, BeginAlike, Good}
use Rattle.ssi_lexer.specs.Spelling.{Begins, NeedsMore}
use Rattle.ssi_lexer.proofs.Joining.{halted, took}
use Rattle.ssi_lexer.proofs.OneAnswer.{Compared, longer, shorter, begins_less, begins_of, compared}
use Rattle.ssi_lexer.proofs.Spellings.{not_both, rest_is}
use Rattle.ssi_script.specs.Misspellings.{IsMisspelled, StopsAt}
use Rattle.ssi_script.specs.StepReading.{stop_place}

module _ (A : Type 0) (p : Parser A) (S : A → List Lexeme → Type 0) (good : Good A p S Always Always) where
  whole_read : (x : A) (used : List Lexeme) → S x used → p used ≡ Ok (x, [])
  whole_read x used s = ap p (sym (append-nil used)) ∙ good.complete x used [] s tt

  -- ---- where the reader stops

  needs_more : (left front rest : List Lexeme) (stop : Stop) → p left ≡ Err (stop, rest) → left ≡ front ++ rest → (x : A) (others : List Lexeme) → S x (front ++ others) → NeedsMore A S front
  needs_more left front rest stop e parts x [] s = absurd (not_both A (p left) (stop, rest) x rest e (ap p parts ∙ good.complete x front rest (subst (S x) (append-nil front) s) tt))
  needs_more left front rest stop e parts x (t ∷ ts) s = record { value = x; next = t; further = ts; spells = s }

  stops_at : (front rest : List Lexeme) (end : TextEnd) (stop : Stop) → ((other : List Lexeme) → BeginAlike other rest → p (front ++ other) ≡ Err (stop, other)) → StopsAt A S front rest end (stop_place rest end)
  stops_at front [] (Finished past) stop again = refl
  stops_at front [] (Faulty fault) stop again = refl
  stops_at front (t ∷ ts) end stop again = (
    refl,
    λ b.
        let whole : (front ++ (t ∷ [])) ++ b.further ≡ front ++ (t ∷ b.further) = append_assoc front (t ∷ []) b.further in
        not_both A (p ((front ++ (t ∷ [])) ++ b.further)) (stop, t ∷ b.further) b.value [] (ap p whole ∙ again (t ∷ b.further) refl) (whole_read b.value _ b.spells),
  )

  pub misspelled_by : (left : List Lexeme) (end : TextEnd) (stop : Stop) (rest : List Lexeme) → p left ≡ Err (stop, rest) → IsMisspelled A S left end (stop_place rest end)
  misspelled_by left end stop rest e =
      let h = halted A p S Always Always good left stop rest e in
      record { front = h.front; rest = rest; parts = h.parts; begins = needs_more left h.front rest stop e h.parts h.value h.others h.begins; stops = stops_at h.front rest end stop h.again }

  -- ---- one place

  place_is : (front rest : List Lexeme) (end : TextEnd) (place : Place) → StopsAt A S front rest end place → place ≡ stop_place rest end
  place_is front [] (Finished past) place stops = stops
  place_is front [] (Faulty fault) place stops = stops
  place_is front (t ∷ ts) end place stops = stops.0

  -- no spelling goes past the place
  none_past : (front rest more : List Lexeme) (end : TextEnd) (place : Place) (t : Lexeme) (e : List Lexeme) → StopsAt A S front rest end place → rest ≡ t ∷ more → ¬ Begins A S (front ++ (t ∷ e))
  none_past front rest more end place t e stops is b =
      let there : StopsAt A S front (t ∷ more) end place = subst (λ (ts : List Lexeme). StopsAt A S front ts end place) is stops in
      there.1 (begins_less A S front t e b)

  one_by : (left : List Lexeme) (end : TextEnd) (a b : Place) (f : IsMisspelled A S left end a) (g : IsMisspelled A S left end b) → Compared f.front g.front f.rest g.rest → a ≡ b
  one_by left end a b f g (longer [] same rest) =
      place_is f.front f.rest end a f.stops ∙ ap (λ (ts : List Lexeme). stop_place ts end) rest ∙ sym (place_is g.front g.rest end b g.stops)
  one_by left end a b f g (longer (t ∷ e) same rest) = absurd (none_past f.front f.rest (e ++ g.rest) end a t e f.stops rest (subst (Begins A S) same (begins_of A S g.front g.begins)))
  one_by left end a b f g (shorter t e same rest) = absurd (none_past g.front g.rest (e ++ f.rest) end b t e g.stops rest (subst (Begins A S) same (begins_of A S f.front f.begins)))

  pub one_place : (left : List Lexeme) (end : TextEnd) (a b : Place) → IsMisspelled A S left end a → IsMisspelled A S left end b → a ≡ b
  one_place left end a b f g = one_by left end a b f g (compared f.front g.front f.rest g.rest (sym f.parts ∙ g.parts))

  -- ---- what is spelled isn't misspelled

  -- a spelling goes on to no other
  ends_there : (x y : A) (used more : List Lexeme) (t : Lexeme) → S x used → S y (used ++ (t ∷ more)) → ⊥
  ends_there x y used more t s r =
      let same = rest_is A x y (t ∷ more) [] (sym (good.complete x used (t ∷ more) s tt) ∙ whole_read y (used ++ (t ∷ more)) r) in
      absurd cc

  not_by : (left : List Lexeme) (end : TextEnd) (place : Place) (x : A) (used rest : List Lexeme) (f : IsMisspelled A S left end place) → S x used → Compared f.front used f.rest rest → ⊥
  not_by left end place x used rest f s (longer [] same is) = ends_there x f.begins.value f.front f.begins.further f.begins.next (subst (S x) (same ∙ append-nil f.front) s) f.begins.spells
  not_by left end place x used rest f s (longer (t ∷ e) same is) =
      none_past f.front f.rest (e ++ rest) end place t e f.stops is (record { value = x; further = []; spells = subst (S x) (same ∙ sym (append-nil (f.front ++ (t ∷ e)))) s })
  not_by left end place x used rest f s (shorter t e same is) =
      let behind = f.begins.next ∷ f.begins.further in
      let whole : f.front ++ behind ≡ used ++ (t ∷ (e ++ behind)) = ap (λ (ts : List Lexeme). ts ++ behind) same ∙ append_assoc used (t ∷ e) behind in
      ends_there x f.begins.value used (e ++ behind) t s (subst (S f.begins.value) whole f.begins.spells)

  not_misspelled : (left : List Lexeme) (end : TextEnd) (place : Place) (x : A) (used rest : List Lexeme) → left ≡ used ++ rest → S x used → ¬ IsMisspelled A S left end place
  not_misspelled left end place x used rest parts s f = not_by left end place x used rest f s (compared f.front used f.rest rest (sym f.parts ∙ parts))

  -- ---- what the reader answers

  -- the reader stops there
  pub record StopsReader (left : List Lexeme) (end : TextEnd) (place : Place) : Type 0 where
    pub stop : Stop
    pub rest : List Lexeme
    pub answer : p left ≡ Err (stop, rest)
    pub place_there : place ≡ stop_place rest end

  stopped_by : (left : List Lexeme) (end : TextEnd) (place : Place) → IsMisspelled A S left end place → (o : Outcome A) → p left ≡ o → StopsReader left end place
  stopped_by left end place f (Ok r) e =
      let t = took A p S Always Always good left r.0 r.1 e in
      absurd (not_misspelled left end place r.0 t.used r.1 t.parts t.spells f)
  stopped_by left end place f (Err halt) e = record {
    stop = halt.0;
    rest = halt.1;
    answer = e;
    place_there = one_place left end place (stop_place halt.1 end) f (misspelled_by left end halt.0 halt.1 e);
  }

  pub stops_reader : (left : List Lexeme) (end : TextEnd) (place : Place) → IsMisspelled A S left end place → StopsReader left end place
  stops_reader left end place f = stopped_by left end place f (p left) refl
