-- What a reader of a language answers at its end: what it tells, from what it reads.
use Rattle.std.proofs.Common.{◌≡◌, ◌≢◌, Bool, true, false, List, [], ◌∷◌, ◌++◌, Result, Ok, Err, IfErr, refl, sym, ap, subst, ◌∙◌}
use Rattle.std.specs.Prelude.{if◌then◌else◌, Option, Some, None}
use Rattle.std.specs.Option.{IfSome}
use Rattle.std.proofs.lemmas.List.{append-nil}
use Rattle.ssi_base.specs.declared.place.Place.{Place}
use Rattle.ssi_lexer.specs.declared.token.LexFault.{LexFault}
use Rattle.ssi_lexer.specs.declared.token.TextEnd.{TextEnd}
use Rattle.ssi_lexer.specs.declared.token.TextEnd.TheVariants.{Finished, Faulty}
use Rattle.ssi_lexer.specs.declared.wanted.Stop.{Stop}
use Rattle.ssi_lexer.specs.declared.wanted.Stop.TheVariants as s
use Rattle.ssi_lexer.specs.Lexemes.{Lexeme}
use Rattle.ssi_lexer.specs.Parsers.{Parser, Reads}
use Rattle.ssi_lexer.specs.Laws.{Always, Good, Deepens}
use Rattle.ssi_lexer.specs.Readings.{Reading, GoesOn}
use Rattle.ssi_lexer.specs.Spelling.{next_place, IsEnded, NeedsMore, TakesFront, Finding, Finds, HasOneFinding, Leaves}
use Rattle.ssi_lexer.proofs.Joining.{took, halted}
use Rattle.ssi_lexer.proofs.Findings.{FindsBy, flat_finds}
use Rattle.ssi_lexer.proofs.Starting.{some_token}
use Rattle.ssi_lexer.proofs.Spellings as spelling
use Rattle.ssi_lexer.proofs.Spellings.{Follows}
use Rattle.ssi_lexer.specs.declared.token.TokenKind.TheVariants.{Dot}
use Rattle.ssi_terms.specs.declared.read_fault.ReadFault.{ReadFault}
use Rattle.ssi_terms.specs.declared.read_fault.ReadFault.TheVariants as f
use Rattle.ssi_terms.specs.Readers.{found_by, Tells, FindsFront, IsTold}
use Rattle.ssi_terms.specs.Ending.{ended, front_ended}
use Rattle.ssi_terms.specs.Tests.{any_token}

-- ---- where a token or the end of the text has to follow

-- what was found is there, and is what the tokens that are left say
pub record Told (A : Type 0) (There : Finding A → Type 0) (end : TextEnd) (new : List Lexeme) (result : Result A ReadFault) : Type 0 where
  pub found : IfSome (found_by result new) There
  pub leaves : IfSome (found_by result new) (λ found. Leaves found new end)

module _ (A : Type 0) (p : Parser A) (S M : A → List Lexeme → Type 0) (ends : Lexeme → Bool) (finds : FindsBy A p S M ends) (old : List Lexeme) (end : TextEnd) where
  abbrev Tells_so : List Lexeme → Result A ReadFault → Type 0
  Tells_so = Told A (Finds A S M ends old end) end

  told_read : (t : Lexeme) (ts : List Lexeme) (x : A) → p old ≡ Ok (x, t ∷ ts) → (b : Bool) → ends t ≡ b → Tells_so (t ∷ ts) (if b then Ok x else Err (f.Syntax t.place))
  told_read t ts x e true is = record { found = finds.found old end x (t ∷ ts) e is; leaves = refl }
  told_read t ts x e false is = record { found = finds.unended old end x t ts e is; leaves = refl }

  told_by : (how : TextEnd) → how ≡ end → (read : Result A Stop) (new : List Lexeme) → Reads (p old) read new → Tells_so new (ended ends read new how)
  told_by how is (Ok x) (t ∷ ts) e = told_read t ts x e (ends t) refl
  told_by (Finished place) is (Ok x) [] e = record { found = finds.found old end x [] e (subst (IsEnded ends []) is tt); leaves = refl }
  told_by (Faulty fault) is (Ok x) [] e = record { found = record { begins = finds.read_inside old x e; faulty = sym is }; leaves = ap (next_place []) (sym is) }
  told_by how is (Err s.Syntax) (t ∷ ts) e = record { found = finds.stopped old (t ∷ ts) end t.place e refl; leaves = refl }
  told_by (Finished place) is (Err s.Syntax) [] e = let at = ap (next_place []) (sym is) in record { found = finds.stopped old [] end place e at; leaves = at }
  told_by (Faulty fault) is (Err s.Syntax) [] e = record { found = record { begins = finds.stopped_inside old s.Syntax e; faulty = sym is }; leaves = ap (next_place []) (sym is) }
  told_by how is (Err s.TooDeep) (t ∷ ts) e = record { found = finds.too_deep old t ts e; leaves = refl }
  told_by how is (Err s.TooDeep) [] e = absurd (finds.not_at_end old e)
  told_by how is (Err s.Memory) new e = record { found = tt; leaves = tt }

-- a reader that answers so tells what is there
pub told : (A : Type 0) (p : Parser A) (S M : A → List Lexeme → Type 0) (ends : Lexeme → Bool) → FindsBy A p S M ends → (old new : Reading) (read : Result A Stop) (result : Result A ReadFault)
    → Reads (p old.left) read new.left → GoesOn old new → result ≡ ended ends read new.left new.end → Tells A (Finds A S M ends) old new result
told A p S M ends finds old new read result e on answer =
    let same : new.end ≡ old.end = on.end in
    let t = subst (Told A (Finds A S M ends old.left old.end) old.end new.left) (sym answer) (told_by A p S M ends finds old.left old.end new.end same read new.left e) in
    record { found = t.found; leaves = subst (λ how. IfSome (found_by result new.left) (λ found. Leaves found new.left how)) (sym same) t.leaves; goes_on = on }

if_told : {A : Type 0} {P : A → Type 0} (o : Option A) (x : A) → ((y : A) → P y → y ≡ x) → IfSome o P → IfSome o (λ y. y ≡ x)
if_told None x only h = tt
if_told (Some y) x only h = only y h

-- where one finding is there, it is told
pub is_told : (A : Type 0) (There : List Lexeme → TextEnd → Finding A → Type 0) → HasOneFinding A There → IsTold A There
is_told A There one old new result found told is =
    if_told (found_by result new.left) found (λ other h. one.one old.left old.end other found h is) told.found

-- ---- where anything may follow

abbrev pub Anything : Follows Always any_token
Anything = record { at_end = tt; before = λ t ts e. tt; some = some_token Dot []; some_is = refl }

module _ (A : Type 0) (p : Parser A) (S : A → List Lexeme → Type 0) (good : Good A p S Always Always) (deepens : Deepens A p p) (old : List Lexeme) (end : TextEnd) where
  -- the clauses of a public reader that doesn't look at what follows
  pub record ToldFront (new : List Lexeme) (result : Result A ReadFault) : Type 0 where
    pub told : Told A (FindsFront A S old end) end new result
    pub only : (x : A) (rest : List Lexeme) → TakesFront A S old x rest → (result ≡ Ok x) × (new ≡ rest)
    pub never_memory : result ≢ Err f.Memory

  front_is : (x : A) (rest : List Lexeme) → TakesFront A S old x rest → p old ≡ Ok (x, rest)
  front_is x rest t = ap p t.parts ∙ good.complete x t.used rest t.spells tt

  front_stopped : (stop : Stop) (new : List Lexeme) → p old ≡ Err (stop, new) → (x : A) (rest : List Lexeme) → ¬ TakesFront A S old x rest
  front_stopped stop new e x rest t = let same = sym e ∙ front_is x rest t in absurd cc

  front_ok : (new : List Lexeme) (x : A) → p old ≡ Ok (x, new) → ToldFront new (Ok x)
  front_ok new x e =
      let t = took A p S Always Always good old x new e in
      record {
        told = record { found = record { used = t.used; parts = t.parts; spells = t.spells }; leaves = refl };
        only = λ y rest t. let same = sym e ∙ front_is y rest t in (ap Ok (spelling.value_is A x y new rest same), spelling.rest_is A x y new rest same);
        never_memory = λ h. absurd cc;
      }

  front_syntax : (new : List Lexeme) (place : Place) → p old ≡ Err (s.Syntax, new) → next_place new end ≡ Ok place → ToldFront new (Err (f.Syntax place))
  front_syntax new place e at =
      let finds = flat_finds A p S Always Always good deepens any_token Anything in
      record {
        told = record { found = finds.stopped old new end place e at; leaves = at };
        only = λ x rest t. absurd (front_stopped s.Syntax new e x rest t);
        never_memory = λ h. absurd cc;
      }

  needs_more : (x : A) (others : List Lexeme) → S x (old ++ others) → p old ≡ Err (s.Syntax, []) → NeedsMore A S old
  needs_more x [] h e = absurd (front_stopped s.Syntax [] e x [] (record { used = old; parts = sym (append-nil old); spells = subst (S x) (append-nil old) h }))
  needs_more x (t ∷ ts) h e = record { value = x; next = t; further = ts; spells = h }

  front_lexical : (fault : LexFault) → p old ≡ Err (s.Syntax, []) → end ≡ Faulty fault → ToldFront [] (Err (f.Lex fault))
  front_lexical fault e is =
      let h = halted A p S Always Always good old s.Syntax [] e in
      let all : h.front ≡ old = sym (append-nil h.front) ∙ sym h.parts in
      let begins = needs_more h.value h.others (subst (λ (front : List Lexeme). S h.value (front ++ h.others)) all h.begins) e in
      record {
        told = record { found = record { begins = begins; faulty = is }; leaves = ap (next_place []) is };
        only = λ x rest t. absurd (front_stopped s.Syntax [] e x rest t);
        never_memory = λ h. absurd cc;
      }

  front_by : (how : TextEnd) → how ≡ end → (read : Result A Stop) (new : List Lexeme) → Reads (p old) read new → IfErr read (λ stop. stop ≡ s.Syntax) → ToldFront new (front_ended read new how)
  front_by how is (Ok x) new e stops = front_ok new x e
  front_by how is (Err s.Syntax) (t ∷ ts) e stops = front_syntax (t ∷ ts) t.place e refl
  front_by (Finished place) is (Err s.Syntax) [] e stops = front_syntax [] place e (ap (next_place []) (sym is))
  front_by (Faulty fault) is (Err s.Syntax) [] e stops = front_lexical fault e (sym is)
  front_by how is (Err s.TooDeep) new e stops = absurd cc
  front_by how is (Err s.Memory) new e stops = absurd cc

  -- a reader that answers so meets the clauses
  pub told_front : (read : Result A Stop) (new : List Lexeme) (how : TextEnd) (result : Result A ReadFault) → Reads (p old) read new → IfErr read (λ stop. stop ≡ s.Syntax) → how ≡ end → result ≡ front_ended read new how → ToldFront new result
  told_front read new how result e stops is answer = subst (ToldFront new) (sym answer) (front_by how is read new e stops)

-- what such a reader tells
pub tells_front : (A : Type 0) (S : A → List Lexeme → Type 0) (old new : Reading) (result : Result A ReadFault) → GoesOn old new → Told A (FindsFront A S old.left old.end) old.end new.left result
    → Tells A (FindsFront A S) old new result
tells_front A S old new result on t = record {
  found = t.found;
  leaves = subst (λ how. IfSome (found_by result new.left) (λ found. Leaves found new.left how)) (sym (on.end)) t.leaves;
  goes_on = on;
}
