-- The byte that a piece begins with tells its kind.
use Rattle.std.proofs.Common.{◌≡◌, ℕ, Bool, true, false, cond, Option, Some, None, refl, ap, subst, arith}
use Rattle.std.specs.Prelude.{◌==◌}
use Rattle.std.proofs.lemmas.Bool.Decides.{nat_tests}
use Rattle.ssi_lexer.specs.declared.token.TokenKind.{TokenKind}
use Rattle.ssi_lexer.specs.declared.token.TokenKind.TheVariants.{Name, Word, Number, Comma, Dot, Open, Close}
use Rattle.ssi_lexer.specs.Pieces.{PieceKind, Separator, Comment, A, is_separator, is_capital, is_small, is_digit, begins}
use Rattle.ssi_lexer.specs.Scan.{token_kind_at, a_token, kind_at}

-- a kind that is found is one that begins so
found : (t : Bool) (k kind : TokenKind) (b : ℕ) (others : Option TokenKind) → begins (A k) b ≡ t → cond t (Some k) others ≡ Some kind
    → (others ≡ Some kind → begins (A kind) b ≡ true) → begins (A kind) b ≡ true
found true k kind b others e f g = let same : k ≡ kind = cc in subst (λ (j : TokenKind). begins (A j) b ≡ true) same e
found false k kind b others e f g = g f

token_begins : (b : ℕ) (kind : TokenKind) → token_kind_at b ≡ Some kind → begins (A kind) b ≡ true
token_begins b kind h =
    found (is_capital b) Name kind b _ refl h (λ h.
    found (is_small b) Word kind b _ refl h (λ h.
    found (is_digit b) Number kind b _ refl h (λ h.
    found (b == 44) Comma kind b _ refl h (λ h.
    found (b == 46) Dot kind b _ refl h (λ h.
    found (b == 40) Open kind b _ refl h (λ h.
    found (b == 41) Close kind b None refl h (λ h. absurd cc)))))))

a_token_begins : (b : ℕ) (o : Option TokenKind) (kind : PieceKind) → token_kind_at b ≡ o → a_token o ≡ Some kind → begins kind b ≡ true
a_token_begins b None kind e f = absurd cc
a_token_begins b (Some k) kind e f = let same : A k ≡ kind = cc in subst (λ (j : PieceKind). begins j b ≡ true) same (token_begins b k e)

found_piece : (t : Bool) (k kind : PieceKind) (b : ℕ) (others : Option PieceKind) → begins k b ≡ t → cond t (Some k) others ≡ Some kind
    → (others ≡ Some kind → begins kind b ≡ true) → begins kind b ≡ true
found_piece true k kind b others e f g = let same : k ≡ kind = cc in subst (λ (j : PieceKind). begins j b ≡ true) same e
found_piece false k kind b others e f g = g f

pub begins_at : (b : ℕ) (kind : PieceKind) → kind_at b ≡ Some kind → begins kind b ≡ true
begins_at b kind h =
    found_piece (is_separator b) Separator kind b _ refl h (λ h.
    found_piece (b == 47) Comment kind b _ refl h (λ h.
    a_token_begins b (token_kind_at b) kind refl h))

-- where no kind is found, none begins so
missed : {K : Type 0} (t : Bool) (k : K) (others : Option K) → cond t (Some k) others ≡ None → (t ≡ false) × (others ≡ None)
missed true k others e = absurd cc
missed false k others e = (refl, e)

no_token : (o : Option TokenKind) → a_token o ≡ None → o ≡ None
no_token None e = refl
no_token (Some k) e = absurd cc

pub begins_none : (b : ℕ) → kind_at b ≡ None → (kind : PieceKind) → begins kind b ≡ false
begins_none b h =
    let separator = missed (is_separator b) Separator _ h in
    let comment = missed (b == 47) Comment _ separator.1 in
    let name = missed (is_capital b) Name _ (no_token (token_kind_at b) comment.1) in
    let word = missed (is_small b) Word _ name.1 in
    let number = missed (is_digit b) Number _ word.1 in
    let comma = missed (b == 44) Comma _ number.1 in
    let dot = missed (b == 46) Dot _ comma.1 in
    let opened = missed (b == 40) Open _ dot.1 in
    let closed = missed (b == 41) Close None opened.1 in
    λ kind. elim kind as (λ k. begins k b ≡ false) [
      | Separator ↦ separator.0
      | Comment ↦ comment.0
      | A token ↦ elim token as (λ k. begins (A k) b ≡ false) [
        | Name ↦ name.0
        | Word ↦ word.0
        | Number ↦ number.0
        | Comma ↦ comma.0
        | Dot ↦ dot.0
        | Open ↦ opened.0
        | Close ↦ closed.0
      ]
    ]

pub kind_at-begun : (b : ℕ) (kind : PieceKind) → begins kind b ≡ true → kind_at b ≡ Some kind
kind_at-begun b Separator h = grind (arith, nat_tests)
kind_at-begun b Comment h = grind (arith, nat_tests)
kind_at-begun b (A Name) h = grind (arith, nat_tests)
kind_at-begun b (A Word) h = grind (arith, nat_tests)
kind_at-begun b (A Number) h = grind (arith, nat_tests)
kind_at-begun b (A Comma) h = grind (arith, nat_tests)
kind_at-begun b (A Dot) h = grind (arith, nat_tests)
kind_at-begun b (A Open) h = grind (arith, nat_tests)
kind_at-begun b (A Close) h = grind (arith, nat_tests)

-- where no kind begins so, none is found
passed : {K : Type 0} (t : Bool) (k : K) (others : Option K) → t ≡ false → others ≡ None → cond t (Some k) others ≡ None
passed true k others e f = absurd cc
passed false k others e f = f

pub kind_at-none : (b : ℕ) → ((kind : PieceKind) → begins kind b ≡ false) → kind_at b ≡ None
kind_at-none b h =
    passed (is_separator b) Separator _ (h Separator)
    (passed (b == 47) Comment _ (h Comment)
    (ap a_token
    (passed (is_capital b) Name _ (h (A Name))
    (passed (is_small b) Word _ (h (A Word))
    (passed (is_digit b) Number _ (h (A Number))
    (passed (b == 44) Comma _ (h (A Comma))
    (passed (b == 46) Dot _ (h (A Dot))
    (passed (b == 40) Open _ (h (A Open))
    (passed (b == 41) Close None (h (A Close)) refl)))))))))
