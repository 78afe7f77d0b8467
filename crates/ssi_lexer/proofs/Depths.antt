-- A reader of a language by its depth: what it answers within a depth, of spellings within it and with depths left aside.
use Rattle.std.proofs.Common.{◌≡◌, ℕ, zero, suc, ◌+◌, ◌<◌, ◌≤◌, Bool, true, false, List, [], ◌∷◌, ◌++◌, length, Ok, Err, refl, sym, ap, subst, ◌∙◌, append_assoc, length-append, arith}
use Rattle.std.proofs.lemmas.List.{append-nil}
use Rattle.ssi_base.specs.declared.place.Place.{Place}
use Rattle.ssi_lexer.specs.declared.token.TextEnd.{TextEnd}
use Rattle.ssi_lexer.specs.declared.token.TextEnd.TheVariants.{Finished, Faulty}
use Rattle.ssi_lexer.specs.declared.wanted.Stop.{Stop}
use Rattle.ssi_lexer.specs.declared.wanted.Stop.TheVariants as s
use Rattle.ssi_lexer.specs.Lexemes.{Lexeme}
use Rattle.ssi_lexer.specs.TokenTests.{Is}
use Rattle.ssi_lexer.specs.Parsers.{Outcome, Parser}
use Rattle.ssi_lexer.specs.Laws.{BeginAlike, tokens_left, GoesPast, Extends, Explains, Deep}
use Rattle.ssi_lexer.specs.Spelling.{AtAnyDepth, Begins, NeedsMore, WithEnd, IsEnded, Takes, FitsNothing, FirstFault, FirstTooDeep, HasOneValue, next_place}
use Rattle.ssi_lexer.proofs.Joining.{took, halted}
use Rattle.ssi_lexer.proofs.OneAnswer.{Compared, longer, shorter, compared}
use Rattle.ssi_lexer.proofs.Spellings as spelling
use Rattle.ssi_lexer.proofs.Spellings.{Follows}

-- ---- depths

-- so many levels more
raised : ℕ → ℕ → ℕ
raised zero depth = depth
raised (suc more) depth = suc (raised more depth)

raised_is : (more depth : ℕ) → raised more depth ≡ more + depth
unfolding raised
raised_is zero depth = omega arith
raised_is (suc more) depth = let e = raised_is more depth in omega (arith, e)

raised_both : (a b : ℕ) → raised a b ≡ raised b a
raised_both a b = let e = raised_is a b in let f = raised_is b a in omega (arith, e, f)

-- ---- what is in front

-- a list that leaves less has more in front
more_in_front : (a b ts rest : List Lexeme) (t : Lexeme) → Compared a b (t ∷ ts) rest → length rest < length (t ∷ ts) → (e : List Lexeme) × (b ≡ a ++ (t ∷ e))
more_in_front a b ts rest t (longer [] same is) less = absurd (let all = ap length is in omega (arith, all))
more_in_front a b ts rest t (longer (s ∷ e) same is) less = (e, same ∙ ap (λ (x : Lexeme). a ++ (x ∷ e)) (sym (spelling.first_is t s ts (e ++ rest) is)))
more_in_front a b ts rest t (shorter s e same is) less = absurd (let all = ap length is in omega (arith, all, length-append e (t ∷ ts)))

module _ (A : Type 0) (p : ℕ → Parser A) (S : ℕ → A → List Lexeme → Type 0) (E F : List Lexeme → Type 0) (deep : Deep A p S E F) (ends : Lexeme → Bool) (follows : Follows F ends) where
  -- ---- with more levels the reader reads the same, and stops at the same fault

  read_deeper : (depth more : ℕ) (ts : List Lexeme) (x : A) (rest : List Lexeme) → p depth ts ≡ Ok (x, rest) → p (raised more depth) ts ≡ Ok (x, rest)
  unfolding raised
  read_deeper depth zero ts x rest e = e
  read_deeper depth (suc more) ts x rest e =
      let one = read_deeper depth more ts x rest e in
      subst (λ v. Extends v (p (suc (raised more depth)) ts)) one ((deep.deepens (raised more depth)).extends ts)

  stopped_deeper : (depth more : ℕ) (ts rest : List Lexeme) → p depth ts ≡ Err (s.Syntax, rest) → p (raised more depth) ts ≡ Err (s.Syntax, rest)
  unfolding raised
  stopped_deeper depth zero ts rest e = e
  stopped_deeper depth (suc more) ts rest e =
      let one = stopped_deeper depth more ts rest e in
      subst (λ v. Extends v (p (suc (raised more depth)) ts)) one ((deep.deepens (raised more depth)).extends ts)

  -- what is spelled in a depth is spelled in each that is deeper
  spelled_deeper : (depth more : ℕ) (x : A) (u : List Lexeme) → S depth x u → S (raised more depth) x u
  spelled_deeper depth more x u h =
      let read = read_deeper depth more (u ++ []) x [] ((deep.good depth).complete x u [] h follows.at_end) in
      let t = took A (p (raised more depth)) (S (raised more depth)) E F (deep.good (raised more depth)) (u ++ []) x [] read in
      subst (S (raised more depth) x) (sym (append-nil t.used) ∙ sym t.parts ∙ append-nil u) t.spells

  -- tokens that spell two values, in whichever depths, spell one
  pub one_value : HasOneValue A (AtAnyDepth A S)
  one_value a b tokens first second =
      let deeper = spelled_deeper first.0 second.0 a tokens first.1 in
      let other = subst (λ (depth : ℕ). S depth b tokens) (raised_both first.0 second.0) (spelled_deeper second.0 first.0 b tokens second.1) in
      spelling.one_value A (p (raised second.0 first.0)) (S (raised second.0 first.0)) E F (deep.good (raised second.0 first.0)) ends follows a b tokens deeper other

  -- ---- within a depth

  module _ (depth : ℕ) where
    abbrev Aside : A → List Lexeme → Type 0
    Aside = AtAnyDepth A S

    abbrev Within : A → List Lexeme → Type 0
    Within = S depth

    -- deeper than this depth
    lifted : (x : A) (u : List Lexeme) (h : Aside x u) → S (raised h.0 depth) x u
    lifted x u h = subst (λ (d : ℕ). S d x u) (raised_both depth h.0) (spelled_deeper h.0 depth x u h.1)

    lifted_begins : (front : List Lexeme) (b : Begins A (WithEnd A Aside ends) front) → Begins A (WithEnd A (S (raised b.spells.spells.0 depth)) ends) front
    lifted_begins front b = record {
      value = b.value;
      further = b.further;
      spells = record {
        used = b.spells.used;
        last = b.spells.last;
        parts = b.spells.parts;
        spells = lifted b.value b.spells.used b.spells.spells;
        ends_it = b.spells.ends_it;
      };
    }

    -- where nothing fits in any deeper depth, nothing fits with depths left aside
    fits_aside : (front rest : List Lexeme) (end : TextEnd) (place : Place) → ((more : ℕ) → FitsNothing A (S (raised more depth)) ends front rest end place) → FitsNothing A Aside ends front rest end place
    fits_aside front [] (Finished past) place h = ((h 0).0, λ x aside. (h aside.0).1 x (lifted x front aside))
    fits_aside front [] (Faulty fault) place h = h 0
    fits_aside front (t ∷ ts) end place h = ((h 0).0, λ b. (h b.spells.spells.0).1 (lifted_begins (front ++ (t ∷ [])) b))

    -- a fault is one with depths left aside
    pub stopped_first : (left rest : List Lexeme) (end : TextEnd) (place : Place) → p depth left ≡ Err (s.Syntax, rest) → next_place rest end ≡ Ok place → FirstFault A Within Aside ends left end place
    stopped_first left rest end place e at =
        let h = halted A (p depth) Within E F (deep.good depth) left s.Syntax rest e in
        record {
          front = h.front;
          rest = rest;
          parts = h.parts;
          begins = spelling.begins_with_end A (p depth) Within E F (deep.good depth) ends follows h.front h.value h.others h.begins;
          fault = fits_aside h.front rest end place (λ more.
              spelling.fits_nothing A (p (raised more depth)) (S (raised more depth)) E F (deep.good (raised more depth)) ends follows h.front rest end place s.Syntax at
              (λ other alike. stopped_deeper depth more (h.front ++ other) other (h.again other alike)));
        }

    pub unended_first : (left : List Lexeme) (end : TextEnd) (x : A) (t : Lexeme) (ts : List Lexeme) → p depth left ≡ Ok (x, t ∷ ts) → ends t ≡ false → FirstFault A Within Aside ends left end t.place
    unended_first left end x t ts e unended =
        let h = took A (p depth) Within E F (deep.good depth) left x (t ∷ ts) e in
        record {
          front = h.used;
          rest = t ∷ ts;
          parts = h.parts;
          begins = spelling.begins_with_end A (p depth) Within E F (deep.good depth) ends follows h.used x [] (subst (Within x) (sym (append-nil h.used)) h.spells);
          fault = fits_aside h.used (t ∷ ts) end t.place (λ more. (
            refl,
            spelling.none_ends A (p (raised more depth)) (S (raised more depth)) E F (deep.good (raised more depth)) ends follows h.used t x unended
                (λ other alike. read_deeper depth more (h.used ++ other) x other (h.again other alike)),
          ));
        }

    -- what the reader takes with a level more begins with the tokens before the one where it stops, and with that one
    begins_deeper : (front rest : List Lexeme) (t : Lexeme) (ts : List Lexeme) → rest ≡ front ++ (t ∷ ts) → (o : Outcome A) → Explains A (p (suc depth)) (S (suc depth)) E rest o → length (tokens_left o) < length (t ∷ ts)
        → Begins A Aside (front ++ (t ∷ []))
    begins_deeper front rest t ts parts (Ok r) h less =
        let more = more_in_front front h.used ts r.1 t (compared front h.used (t ∷ ts) r.1 (sym parts ∙ h.parts)) less in
        record {
          value = r.0;
          further = more.0;
          spells = (suc depth, subst (S (suc depth) r.0) (more.1 ∙ sym (append_assoc front (t ∷ []) more.0)) h.spells);
        }
    begins_deeper front rest t ts parts (Err halt) h less =
        let more = more_in_front front h.front ts halt.1 t (compared front h.front (t ∷ ts) halt.1 (sym parts ∙ h.parts)) less in
        let whole : h.front ++ h.others ≡ (front ++ (t ∷ [])) ++ (more.0 ++ h.others) =
        ap (λ (l : List Lexeme). l ++ h.others) more.1 ∙ append_assoc front (t ∷ more.0) h.others ∙ sym (append_assoc front (t ∷ []) (more.0 ++ h.others)) in
        record { value = h.value; further = more.0 ++ h.others; spells = (suc depth, subst (S (suc depth) h.value) whole h.begins) }

    goes_past : (left rest : List Lexeme) → p depth left ≡ Err (s.TooDeep, rest) → length (tokens_left (p (suc depth) left)) < length rest
    goes_past left rest e = subst (λ v. Extends v (p (suc depth) left)) e ((deep.deepens depth).extends left)

    -- a level is not too deep at the end
    pub not_at_end : (left : List Lexeme) → p depth left ≡ Err (s.TooDeep, []) → ⊥
    not_at_end left e = let past = goes_past left [] e in omega arith

    -- the reader never wants memory
    pub no_memory : (left rest : List Lexeme) → p depth left ≡ Err (s.Memory, rest) → ⊥
    no_memory left rest e = subst (λ v. Extends v (p (suc depth) left)) e ((deep.deepens depth).extends left)

    pub too_deep_first : (left : List Lexeme) (t : Lexeme) (ts : List Lexeme) → p depth left ≡ Err (s.TooDeep, t ∷ ts) → FirstTooDeep A Within Aside ends left t.place
    too_deep_first left t ts e =
        let h = halted A (p depth) Within E F (deep.good depth) left s.TooDeep (t ∷ ts) e in
        record {
          front = h.front;
          opener = t;
          rest = ts;
          parts = h.parts;
          begins = spelling.begins_with_end A (p depth) Within E F (deep.good depth) ends follows h.front h.value h.others h.begins;
          deeper = begins_deeper h.front left t ts h.parts (p (suc depth) left) ((deep.good (suc depth)).explains left) (goes_past left (t ∷ ts) e);
          too_deep = spelling.none_begins A (p depth) Within E F (deep.good depth) ends follows h.front t s.TooDeep (λ other alike. h.again other alike);
          there = refl;
        }
