-- The tokens of which a step is made, as readers take them.
use Rattle.std.proofs.Common.{◌≡◌, ℕ, ◌<◌, ◌≤◌, ◌⊎◌, ◌&&◌, Bool, true, false, List, [], ◌∷◌, Some, None, Ok, Err, refl, arith}
use Rattle.std.specs.Prelude.{nat_le, if◌then◌else◌}
use Rattle.std.proofs.lemmas.Bool.Decides.{nat_tests}
use Rattle.ssi_lexer.specs.declared.token.Token.{Token}
use Rattle.ssi_lexer.specs.declared.wanted.Stop.{Stop}
use Rattle.ssi_lexer.specs.declared.wanted.Stop.TheVariants.{Syntax}
use Rattle.ssi_lexer.specs.Lexemes.{Lexeme, token_of}
use Rattle.ssi_lexer.specs.Parsers.{at_first, tok}
use Rattle.ssi_lexer.specs.Readings.{Reading, after_next, first_of, taken_of}
use Rattle.ssi_lexer.specs.TokenTests.{sees, number}
use Rattle.ssi_lexer.proofs.Numbers.{at_first_number}
use Rattle.ssi_script.specs.declared.words.Number.{Number}
use Rattle.ssi_script.specs.StepReading.{number_told}

-- ---- one token

taken_by : (test : Lexeme → Bool) (t : Lexeme) (ts : List Lexeme) (token : Token) (old new : Reading) (b : Bool) → test t ≡ b → old.left ≡ t ∷ ts
    → Ok token ≡ (if b then Ok (token_of t) else Err Syntax) → new ≡ (if b then after_next old else old) → tok test (t ∷ ts) ≡ Ok (token, new.left)
unfolding tok
taken_by test t ts token old new true e left is moved = let same : token ≡ token_of t = cc in rw (e, moved, left, same) refl
taken_by test t ts token old new false e left is moved = absurd cc

pub taken : (test : Lexeme → Bool) (left : List Lexeme) (token : Token) (old new : Reading) → old.left ≡ left → Ok token ≡ taken_of test left → new ≡ (if sees test left then after_next old else old)
    → tok test left ≡ Ok (token, new.left)
taken test [] token old new left is moved = absurd cc
taken test (t ∷ ts) token old new left is moved = taken_by test t ts token old new (test t) refl left is moved

refused_by : (test : Lexeme → Bool) (t : Lexeme) (ts : List Lexeme) (stop : Stop) (old new : Reading) (b : Bool) → test t ≡ b → old.left ≡ t ∷ ts
    → Err stop ≡ (if b then Ok (token_of t) else Err Syntax) → new ≡ (if b then after_next old else old) → tok test (t ∷ ts) ≡ Err (Syntax, new.left)
unfolding tok
refused_by test t ts stop old new true e left is moved = absurd cc
refused_by test t ts stop old new false e left is moved = rw (e, moved, left) refl

pub refused : (test : Lexeme → Bool) (left : List Lexeme) (stop : Stop) (old new : Reading) → old.left ≡ left → Err stop ≡ taken_of test left → new ≡ (if sees test left then after_next old else old)
    → tok test left ≡ Err (Syntax, new.left)
unfolding tok
refused test [] stop old new left is moved = rw (moved, left) refl
refused test (t ∷ ts) stop old new left is moved = refused_by test t ts stop old new (test t) refl left is moved

-- ---- a number within bounds

abbrev told : ℕ → Token → Number
told n token = record { value = n; token = token }

pub within_is : (least most : ℕ) (left : List Lexeme) (n : ℕ) (token : Token) → sees (number n) left ≡ true → Some token ≡ first_of left → least ≤ n → n ≤ most
    → at_first (number_told least most) left ≡ Some (told n token)
within_is least most [] n token is first low high = absurd cc
within_is least most (t ∷ ts) n token is first low high =
    let found = at_first_number (t ∷ ts) n is in
    let same : token ≡ token_of t = cc in
    let fits : nat_le least n && nat_le n most ≡ true = grind (arith, nat_tests) in
    rw (found, fits, same) refl

pub out_is : (least most : ℕ) (left : List Lexeme) (n : ℕ) → sees (number n) left ≡ true → ((least ≤ n) × (most < n)) ⊎ (n < least) → at_first (number_told least most) left ≡ None
out_is least most [] n is out = absurd cc
out_is least most (t ∷ ts) n is out =
    let found = at_first_number (t ∷ ts) n is in
    let past : nat_le least n && nat_le n most ≡ false = grind (arith, nat_tests, out) in
    rw (found, past) refl
