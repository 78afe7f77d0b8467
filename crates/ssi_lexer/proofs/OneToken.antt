-- A reader of one token.
use Rattle.std.proofs.Common.{◌≡◌, Bool, true, false, List, [], ◌∷◌, ◌++◌, Option, Some, None, Ok, Err, cond, refl}
use Rattle.ssi_lexer.specs.declared.token.Token.{Token}
use Rattle.ssi_lexer.specs.declared.wanted.Stop.TheVariants.{Syntax}
use Rattle.ssi_lexer.specs.Lexemes.{Lexeme, token_of}
use Rattle.ssi_lexer.specs.TokenTests.{Is}
use Rattle.ssi_lexer.specs.Languages.{One, one}
use Rattle.ssi_lexer.specs.Parsers.{tok, valued, or_stop}
use Rattle.ssi_lexer.specs.Laws.{first_lexeme, Always, Explains, Good}

module _ (test : Lexeme → Bool) (some : Lexeme) (some_is : Is test some) where
  again_other : (t : Lexeme) (other : List Lexeme) → test t ≡ false → first_lexeme other ≡ Some t → tok test other ≡ Err (Syntax, other)
  unfolding tok
  again_other t [] e f = absurd cc
  again_other t (s ∷ other) e f = let same : s ≡ t = cc in let e' : test s ≡ false = rw same e in rw e' refl

  again_none : (other : List Lexeme) → first_lexeme other ≡ None → tok test other ≡ Err (Syntax, other)
  unfolding tok
  again_none [] f = refl
  again_none (t ∷ other) f = absurd cc

  explains_by : (t : Lexeme) (ts : List Lexeme) (b : Bool) → test t ≡ b → Explains Token (tok test) (One test) Always (t ∷ ts) (cond b (Ok (token_of t, ts)) (Err (Syntax, t ∷ ts)))
  unfolding tok
  explains_by t ts true e = record { used = t ∷ []; parts = refl; spells = one t e; follows = tt; again = λ other f. rw e refl }
  explains_by t ts false e = record { front = []; parts = refl; value = token_of some; others = some ∷ []; begins = one some some_is; again = λ other f. again_other t other e f }

  tok_explains : (ts : List Lexeme) → Explains Token (tok test) (One test) Always ts (tok test ts)
  unfolding tok
  tok_explains [] = record { front = []; parts = refl; value = token_of some; others = some ∷ []; begins = one some some_is; again = λ other f. again_none other f }
  tok_explains (t ∷ ts) = explains_by t ts (test t) refl

  tok_complete : (x : Token) (used rest : List Lexeme) → One test x used → tok test (used ++ rest) ≡ Ok (x, rest)
  unfolding tok
  tok_complete x used rest (one t e) = rw e refl

  pub good_tok : Good Token (tok test) (One test) Always Always
  good_tok = record {
    explains = tok_explains;
    complete = λ x used rest s k. tok_complete x used rest s;
    sample = token_of some;
    text = some ∷ [];
    sample_is = one some some_is;
  }

-- a token that has a value
pub data Valued (A : Type 0) (f : Lexeme → Option A) : A → List Lexeme → Type 0 where
  a_value : (t : Lexeme) (x : A) → f t ≡ Some x → Valued A f x (t ∷ [])

module _ (A : Type 0) (f : Lexeme → Option A) (some : Lexeme) (value : A) (some_is : f some ≡ Some value) where
  value_again : (t : Lexeme) (other : List Lexeme) → f t ≡ None → first_lexeme other ≡ Some t → valued f other ≡ Err (Syntax, other)
  unfolding valued
  value_again t [] e h = absurd cc
  value_again t (s ∷ other) e h = let same : s ≡ t = cc in let e' : f s ≡ None = rw same e in rw e' refl

  value_again_none : (other : List Lexeme) → first_lexeme other ≡ None → valued f other ≡ Err (Syntax, other)
  unfolding valued
  value_again_none [] h = refl
  value_again_none (t ∷ other) h = absurd cc

  value_by : (t : Lexeme) (ts : List Lexeme) (o : Option A) → f t ≡ o → Explains A (valued f) (Valued A f) Always (t ∷ ts) (or_stop (t ∷ ts) ts o)
  unfolding valued
  value_by t ts (Some x) e = record { used = t ∷ []; parts = refl; spells = a_value t x e; follows = tt; again = λ other h. rw e refl }
  value_by t ts None e = record { front = []; parts = refl; value = value; others = some ∷ []; begins = a_value some value some_is; again = λ other h. value_again t other e h }

  value_explains : (ts : List Lexeme) → Explains A (valued f) (Valued A f) Always ts (valued f ts)
  unfolding valued
  value_explains [] = record { front = []; parts = refl; value = value; others = some ∷ []; begins = a_value some value some_is; again = λ other h. value_again_none other h }
  value_explains (t ∷ ts) = value_by t ts (f t) refl

  value_complete : (x : A) (used rest : List Lexeme) → Valued A f x used → valued f (used ++ rest) ≡ Ok (x, rest)
  unfolding valued
  value_complete x used rest (a_value t y e) = rw e refl

  pub good_valued : Good A (valued f) (Valued A f) Always Always
  good_valued = record {
    explains = value_explains;
    complete = λ x used rest s k. value_complete x used rest s;
    sample = value;
    text = some ∷ [];
    sample_is = a_value some value some_is;
  }
