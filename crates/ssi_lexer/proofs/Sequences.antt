-- Readers one after another, where what comes first may end anywhere or before a token of a kind.
use Rattle.std.proofs.Common.{◌≡◌, Bool, false, List}
use Rattle.ssi_lexer.specs.Lexemes.{Lexeme}
use Rattle.ssi_lexer.specs.TokenTests.{Is}
use Rattle.ssi_lexer.specs.Parsers.{Parser, ◌&◌}
use Rattle.ssi_lexer.specs.Laws.{StartsWith, Always, Good}
use Rattle.ssi_lexer.proofs.Joining.{Both, good_both}
use Rattle.ssi_lexer.proofs.Choosing.{Without}
use Rattle.ssi_lexer.proofs.Starting.{without_after}

-- the first may end anywhere
pub good_then : {A B : Type 0} {p : Parser A} {q : Parser B} {S : A → List Lexeme → Type 0} {T : B → List Lexeme → Type 0} {D E F : List Lexeme → Type 0}
    → Good A p S D Always → Good B q T E F → Good (A × B) (p & q) (Both A B S T) E F
good_then {A = A} {B = B} {p = p} {q = q} {S = S} {T = T} {D = D} {E = E} {F = F} g h = good_both A B p q S T D Always E F (λ y v rest t k. tt) g h

-- the first ends where no such token comes, and the second begins with another
pub joined_by : {A B : Type 0} {p : Parser A} {q : Parser B} {S : A → List Lexeme → Type 0} {T : B → List Lexeme → Type 0} {D E F : List Lexeme → Type 0} (other test : Lexeme → Bool)
    → ((y : B) (v : List Lexeme) → T y v → StartsWith test v) → ((t : Lexeme) → Is test t → other t ≡ false)
    → Good A p S D (Without other Always) → Good B q T E F → Good (A × B) (p & q) (Both A B S T) E F
joined_by {A = A} {B = B} {p = p} {q = q} {S = S} {T = T} {D = D} {E = E} {F = F} other test starts differs g h =
    good_both A B p q S T D (Without other Always) E F (λ y v rest t k. without_after test other v rest (starts y v t) differs) g h
