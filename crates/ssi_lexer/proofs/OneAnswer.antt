-- Of tokens and their end a reader of a language can answer one thing at most: where it is the same language within the
-- depths and with depths left aside.
use Rattle.std.proofs.Common.{◌≡◌, Bool, true, false, List, [], ◌∷◌, ◌++◌, Ok, Err, refl, sym, ap, subst, ◌∙◌, append_assoc}
use Rattle.std.proofs.lemmas.List.{append-nil}
use Rattle.ssi_base.specs.declared.place.Place.{Place}
use Rattle.ssi_lexer.specs.declared.token.LexFault.{LexFault}
use Rattle.ssi_lexer.specs.declared.token.TextEnd.{TextEnd}
use Rattle.ssi_lexer.specs.declared.token.TextEnd.TheVariants.{Finished, Faulty}
use Rattle.ssi_lexer.specs.declared.wanted.Stop.{Stop}
use Rattle.ssi_lexer.specs.Lexemes.{Lexeme}
use Rattle.ssi_lexer.specs.Parsers.{Outcome, Parser}
use Rattle.ssi_lexer.specs.Laws.{first_lexeme, BeginAlike, Took, Good}
use Rattle.ssi_lexer.specs.Spelling.{Begins, NeedsMore, WithEnd, IsEnded, Takes, FitsNothing, FirstFault, StopsInside, next_place}
use Rattle.ssi_lexer.proofs.Joining.{took}
use Rattle.ssi_lexer.proofs.Spellings.{Follows, takes_is, found, begins_with_end, end_read, stopped_first, unended_first, stopped_inside, read_inside, value_is, rest_is, first_is}

-- ---- two ways to part a list

-- the one front begins with the other
pub data Compared (a b c d : List Lexeme) : Type 0 where
  longer : (e : List Lexeme) → b ≡ a ++ e → c ≡ e ++ d → Compared a b c d
  shorter : (t : Lexeme) (e : List Lexeme) → a ≡ b ++ (t ∷ e) → d ≡ t ∷ (e ++ c) → Compared a b c d

pub tail_is : (s t : Lexeme) (more rest : List Lexeme) → s ∷ more ≡ t ∷ rest → more ≡ rest
tail_is s t more rest e = cc

in_front : (x y : Lexeme) (a b c d : List Lexeme) → x ≡ y → Compared a b c d → Compared (x ∷ a) (y ∷ b) c d
in_front x y a b c d same (longer e p q) = longer e (ap (λ (z : Lexeme). z ∷ b) (sym same) ∙ ap (λ (l : List Lexeme). x ∷ l) p) q
in_front x y a b c d same (shorter t e p q) = shorter t e (ap (λ (z : Lexeme). z ∷ a) same ∙ ap (λ (l : List Lexeme). y ∷ l) p) q

pub compared : (a b c d : List Lexeme) → a ++ c ≡ b ++ d → Compared a b c d
compared [] b c d e = longer b refl e
compared (x ∷ a) [] c d e = shorter x a refl (sym e)
compared (x ∷ a) (y ∷ b) c d e = in_front x y a b c d (first_is x y (a ++ c) (b ++ d) e) (compared a b c d (tail_is x y (a ++ c) (b ++ d) e))

not_empty : (e further : List Lexeme) (next : Lexeme) → e ++ (next ∷ further) ≡ [] → ⊥
not_empty [] further next h = cc
not_empty (t ∷ e) further next h = cc

-- ---- fronts of spellings

module _ (A : Type 0) (S : A → List Lexeme → Type 0) where
  -- what begins with more begins with less
  pub begins_less : (front : List Lexeme) (t : Lexeme) (e : List Lexeme) → Begins A S (front ++ (t ∷ e)) → Begins A S (front ++ (t ∷ []))
  begins_less front t e b = record {
    value = b.value;
    further = e ++ b.further;
    spells = subst (S b.value) (append_assoc front (t ∷ e) b.further ∙ sym (append_assoc front (t ∷ []) (e ++ b.further))) b.spells;
  }

  pub begins_of : (front : List Lexeme) → NeedsMore A S front → Begins A S front
  begins_of front n = record { value = n.value; further = n.next ∷ n.further; spells = n.spells }

module _ (A : Type 0) (p : Parser A) (S : A → List Lexeme → Type 0) (E F : List Lexeme → Type 0) (good : Good A p S E F) (ends : Lexeme → Bool) (follows : Follows F ends) where
  abbrev Ended : A → List Lexeme → Type 0
  Ended = WithEnd A S ends

  -- a fault is where its tokens stand
  fault_place : (front rest : List Lexeme) (end : TextEnd) (place : Place) → FitsNothing A S ends front rest end place → next_place rest end ≡ Ok place
  fault_place front [] (Finished past) place f = ap Ok (sym f.0)
  fault_place front [] (Faulty fault) place f = absurd f
  fault_place front (t ∷ ts) end place f = ap Ok (sym f.0)

  -- no spelling goes past a fault
  none_past : (front rest more : List Lexeme) (end : TextEnd) (place : Place) (t : Lexeme) (e : List Lexeme) → FitsNothing A S ends front rest end place → rest ≡ t ∷ more → ¬ Begins A Ended (front ++ (t ∷ e))
  none_past front rest more end place t e f is b =
      let there : FitsNothing A S ends front (t ∷ more) end place = subst (λ (ts : List Lexeme). FitsNothing A S ends front ts end place) is f in
      there.1 (begins_less A Ended front t e b)

  same_place : (a b : Place) (left : List Lexeme) (end : TextEnd) → next_place left end ≡ Ok a → next_place left end ≡ Ok b → a ≡ b
  same_place a b left end e h = let same = sym e ∙ h in cc

  -- what two faults of the same tokens have to do with each other
  fault_by : (left : List Lexeme) (end : TextEnd) (a b : Place) (f : FirstFault A S S ends left end a) (g : FirstFault A S S ends left end b) → Compared f.front g.front f.rest g.rest → a ≡ b
  fault_by left end a b f g (longer [] same rest) =
      same_place a b f.rest end (fault_place f.front f.rest end a f.fault) (ap (λ (ts : List Lexeme). next_place ts end) rest ∙ fault_place g.front g.rest end b g.fault)
  fault_by left end a b f g (longer (t ∷ e) same rest) =
      absurd (none_past f.front f.rest (e ++ g.rest) end a t e f.fault rest (subst (Begins A Ended) same (begins_of A Ended g.front g.begins)))
  fault_by left end a b f g (shorter t e same rest) =
      absurd (none_past g.front g.rest (e ++ f.rest) end b t e g.fault rest (subst (Begins A Ended) same (begins_of A Ended f.front f.begins)))

  pub one_fault : (left : List Lexeme) (end : TextEnd) (a b : Place) → FirstFault A S S ends left end a → FirstFault A S S ends left end b → a ≡ b
  one_fault left end a b f g = fault_by left end a b f g (compared f.front g.front f.rest g.rest (sym f.parts ∙ g.parts))

  -- where a value ends no fault stands
  no_fault_at : (front rest : List Lexeme) (end : TextEnd) (place : Place) (x : A) → S x front → IsEnded ends rest end → ¬ FitsNothing A S ends front rest end place
  no_fault_at front [] (Finished past) place x s ended f = f.1 x s
  no_fault_at front [] (Faulty fault) place x s ended f = ended
  no_fault_at front (t ∷ ts) end place x s ended f =
      f.1 (record { value = x; further = []; spells = record { used = front; last = t; parts = append-nil (front ++ (t ∷ [])); spells = s; ends_it = ended } })

  -- a reader that stops before a token stops there whatever follows it
  longer_read : (used rest : List Lexeme) (x y : A) (t : Lexeme) (c e more : List Lexeme) → ((other : List Lexeme) → BeginAlike other rest → p (used ++ other) ≡ Ok (x, other)) → rest ≡ t ∷ c
      → p (used ++ (t ∷ e)) ≡ Ok (y, more) → t ∷ e ≡ more
  longer_read used rest x y t c e more again is read = rest_is A x y (t ∷ e) more (sym (again (t ∷ e) (ap first_lexeme (sym is))) ∙ read)

  abbrev Read : List Lexeme → A → List Lexeme → Type 0
  Read left x rest = Took A p S E left x rest

  read_of : (left : List Lexeme) (end : TextEnd) (x : A) (rest : List Lexeme) → Takes A S ends left end x rest → Read left x rest
  read_of left end x rest t = took A p S E F good left x rest (takes_is A p S E F good ends follows left end x rest t)

  -- ---- a value that is taken, and a fault

  no_fault_by : (left : List Lexeme) (end : TextEnd) (x : A) (rest : List Lexeme) (place : Place) → IsEnded ends rest end → (k : Read left x rest) (f : FirstFault A S S ends left end place) → Compared f.front k.used f.rest rest → ⊥
  no_fault_by left end x rest place ended k f (longer [] same is) =
      no_fault_at f.front rest end place x (subst (S x) (same ∙ append-nil f.front) k.spells) ended (subst (λ (ts : List Lexeme). FitsNothing A S ends f.front ts end place) is f.fault)
  no_fault_by left end x rest place ended k f (longer (t ∷ e) same is) =
      let b = begins_with_end A p S E F good ends follows k.used x [] (subst (S x) (sym (append-nil k.used)) k.spells) in
      none_past f.front f.rest (e ++ rest) end place t e f.fault is (subst (Begins A Ended) same (begins_of A Ended k.used b))
  no_fault_by left end x rest place ended k f (shorter t e same is) =
      let b = f.begins in
      let behind = b.next ∷ b.further in
      let whole : k.used ++ (t ∷ (e ++ behind)) ≡ f.front ++ behind = sym (append_assoc k.used (t ∷ e) behind) ∙ ap (λ (ts : List Lexeme). ts ++ behind) (sym same) in
      let read = ap p whole ∙ end_read A p S E F good ends follows b.value (f.front ++ behind) b.spells in
      let stops = longer_read k.used rest x b.value t (e ++ f.rest) (e ++ behind) (b.spells.last ∷ []) k.again is read in
      not_empty e b.further b.next (tail_is t b.spells.last (e ++ behind) [] stops)

  pub taken_has_no_fault : (left : List Lexeme) (end : TextEnd) (x : A) (rest : List Lexeme) (place : Place) → Takes A S ends left end x rest → ¬ FirstFault A S S ends left end place
  taken_has_no_fault left end x rest place t f =
      let k = read_of left end x rest t in
      no_fault_by left end x rest place t.ended k f (compared f.front k.used f.rest rest (sym f.parts ∙ k.parts))

  -- ---- a text that stops inside

  not_inside_by : (left : List Lexeme) (fault : LexFault) (x : A) (rest : List Lexeme) → IsEnded ends rest (Faulty fault) → Read left x rest → ¬ Begins A S left
  not_inside_by left fault x [] ended k b = ended
  not_inside_by left fault x (t ∷ ts) ended k b =
      let whole : k.used ++ (t ∷ (ts ++ b.further)) ≡ (left ++ b.further) ++ [] = sym (append_assoc k.used (t ∷ ts) b.further) ∙ ap (λ (all : List Lexeme). all ++ b.further) (sym k.parts) ∙ sym (append-nil (left ++ b.further)) in
      let read = ap p whole ∙ good.complete b.value (left ++ b.further) [] b.spells follows.at_end in
      let stops = longer_read k.used (t ∷ ts) x b.value t ts (ts ++ b.further) [] k.again refl read in
      absurd cc

  pub taken_not_inside : (left : List Lexeme) (end : TextEnd) (x : A) (rest : List Lexeme) (fault : LexFault) → Takes A S ends left end x rest → ¬ StopsInside A S left end fault
  taken_not_inside left end x rest fault read stops =
      not_inside_by left fault x rest (subst (IsEnded ends rest) stops.faulty read.ended) (read_of left end x rest read) stops.begins

  inside_by : (left front rest : List Lexeme) (fault : LexFault) (place : Place) → left ≡ front ++ rest → Begins A S left → ¬ FitsNothing A S ends front rest (Faulty fault) place
  inside_by left front [] fault place parts b f = f
  inside_by left front (t ∷ ts) fault place parts b f =
      let with_end = begins_with_end A p S E F good ends follows left b.value b.further b.spells in
      f.1 (begins_less A Ended front t ts (subst (Begins A Ended) parts (begins_of A Ended left with_end)))

  pub inside_has_no_fault : (left : List Lexeme) (end : TextEnd) (place : Place) (fault : LexFault) → StopsInside A S left end fault → ¬ FirstFault A S S ends left end place
  inside_has_no_fault left end place fault stops f =
      inside_by left f.front f.rest fault place f.parts stops.begins (subst (λ (how : TextEnd). FitsNothing A S ends f.front f.rest how place) stops.faulty f.fault)

  pub one_taken : (left : List Lexeme) (end : TextEnd) (a b : A) (rest more : List Lexeme) → Takes A S ends left end a rest → Takes A S ends left end b more → (a ≡ b) × (rest ≡ more)
  one_taken left end a b rest more s t =
      let same = sym (takes_is A p S E F good ends follows left end a rest s) ∙ takes_is A p S E F good ends follows left end b more t in
      (value_is A a b rest more same, rest_is A a b rest more same)
