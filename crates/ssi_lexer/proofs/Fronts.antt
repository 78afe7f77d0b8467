-- What stands in front of a text.
use Rattle.std.proofs.Common.{◌≡◌, ℕ, suc, ◌+◌, ◌<◌, ◌≤◌, Bool, true, false, cond, List, [], ◌∷◌, length, Option, Some, None, refl, sym, ap, ◌∙◌, arith}
use Rattle.std.specs.Prelude.{◌==◌}
use Rattle.std.proofs.lemmas.Bool.Decides.{nat_tests}
use Rattle.ssi_lexer.specs.declared.token.TokenKind.{TokenKind}
use Rattle.ssi_base.specs.declared.place.Place.{Place}
use Rattle.ssi_lexer.specs.declared.token.TextEnd.TheVariants.{Finished}
use Rattle.ssi_lexer.specs.declared.scan.Cursor.{Cursor}
use Rattle.ssi_lexer.specs.declared.scan.Ahead.{Ahead}
use Rattle.ssi_lexer.specs.declared.scan.Ahead.TheVariants.{Next}
use Rattle.ssi_lexer.specs.Pieces.{Separator, Comment, A, is_separator, is_piece, bad_character_code}
use Rattle.ssi_lexer.specs.Scan.{token_kind_at, a_token, kind_at, run_of, rest_of, code_of, past, with_lexeme, stream, goes_on, IsNoGap, token_at, past_token, no_more, faulty_here, AreItsCharacters, IsWithin}
use Rattle.ssi_lexer.proofs.Runs.{past_piece}
use Rattle.ssi_lexer.proofs.Cuts.{stream-nil, stream_piece, stream_fault, stream_bad}

pub kind_at_no_gap : (b : ℕ) (o : Option TokenKind) → IsNoGap b → o ≡ token_kind_at b → kind_at b ≡ a_token o
kind_at_no_gap b o h e =
    ap (λ t. cond t (Some Separator) (cond (b == 47) (Some Comment) (a_token (token_kind_at b)))) h.no_separator
    ∙ ap (λ t. cond t (Some Comment) (a_token (token_kind_at b))) h.no_comment
    ∙ ap a_token (sym e)

pub no_feed_no_gap : (b : ℕ) → is_separator b ≡ false → (b == 10) ≡ false
no_feed_no_gap b h = grind (arith, nat_tests)

pub no_code : (t : Bool) (k : ℕ) → None ≡ cond t None (Some k) → t ≡ true
no_code true k e = refl
no_code false k e = cc

pub a_code : (t : Bool) (k code : ℕ) → Some code ≡ cond t None (Some k) → (t ≡ false) × (code ≡ k)
a_code true k code e = absurd cc
a_code false k code e = (refl, cc)

pub token_front : (kind : TokenKind) (cursor : Cursor) (b : ℕ) (bs characters rest : List ℕ) (ahead : Ahead) (after : Cursor)
    → kind_at b ≡ Some (A kind) → (b == 10) ≡ false → characters ≡ b ∷ run_of (A kind) bs → rest ≡ rest_of (A kind) bs → is_piece (A kind) characters ≡ true
    → ahead ≡ Next (token_at kind cursor (length characters)) → after ≡ past_token cursor (length characters)
    → goes_on ahead characters (stream after rest) ≡ stream cursor (b ∷ bs)
token_front kind cursor b bs characters rest ahead after is_kind no_feed chars_are rest_is piece ahead_is after_is =
    let run = b ∷ run_of (A kind) bs in
    let left = rest_of (A kind) bs in
    let count = suc (length (run_of (A kind) bs)) in
    let whole : is_piece (A kind) run ≡ true = ap (is_piece (A kind)) (sym chars_are) ∙ piece in
    let here : ahead ≡ Next (token_at kind cursor count) = ahead_is ∙ ap (λ (cs : List ℕ). Next (token_at kind cursor (length cs))) chars_are in
    let there : after ≡ past cursor (A kind) run =
    after_is ∙ ap (λ (cs : List ℕ). past_token cursor (length cs)) chars_are ∙ past_piece (A kind) cursor b bs count (cursor.number + 1) no_feed (omega arith) refl in
    ap (λ (a : Ahead). goes_on a characters (stream after rest)) here
    ∙ ap (λ (cs : List ℕ). goes_on (Next (token_at kind cursor count)) cs (stream after rest)) chars_are
    ∙ ap (λ (c : Cursor). with_lexeme (A kind) run cursor (stream c rest)) there
    ∙ ap (λ (r : List ℕ). with_lexeme (A kind) run cursor (stream (past cursor (A kind) run) r)) rest_is
    ∙ sym (stream_piece (A kind) cursor b bs is_kind whole)

pub fault_front : (kind : TokenKind) (cursor : Cursor) (b : ℕ) (bs characters : List ℕ) (code : ℕ)
    → kind_at b ≡ Some (A kind) → characters ≡ b ∷ run_of (A kind) bs → (is_piece (A kind) characters ≡ false) × (code ≡ code_of (A kind))
    → faulty_here cursor code ≡ stream cursor (b ∷ bs)
fault_front kind cursor b bs characters code is_kind chars_are h =
    ap (faulty_here cursor) h.1 ∙ sym (stream_fault (A kind) cursor b bs is_kind (ap (is_piece (A kind)) (sym chars_are) ∙ h.0))

pub bad_front : (cursor : Cursor) (b : ℕ) (bs : List ℕ) → kind_at b ≡ None → faulty_here cursor bad_character_code ≡ stream cursor (b ∷ bs)
bad_front cursor b bs e = sym (stream_bad cursor b bs e)

pub kind_at_separator : (b : ℕ) → is_separator b ≡ true → kind_at b ≡ Some Separator
kind_at_separator b h = ap (λ t. cond t (Some Separator) (cond (b == 47) (Some Comment) (a_token (token_kind_at b)))) h

run_of-separator : (bs : List ℕ) → run_of Separator bs ≡ []
run_of-separator [] = refl
run_of-separator (b ∷ bs) = refl

rest_of-separator : (bs : List ℕ) → rest_of Separator bs ≡ bs
rest_of-separator [] = refl
rest_of-separator (b ∷ bs) = refl

-- past a separator
pub separator_front : (cursor : Cursor) (b : ℕ) (bs : List ℕ) → is_separator b ≡ true → stream (past cursor Separator (b ∷ [])) bs ≡ stream cursor (b ∷ bs)
separator_front cursor b bs h =
    let e = run_of-separator bs in
    let f = rest_of-separator bs in
    ap (λ (run : List ℕ). stream (past cursor Separator (b ∷ run)) bs) (sym e)
    ∙ ap (stream (past cursor Separator (b ∷ run_of Separator bs))) (sym f)
    ∙ sym (stream_piece Separator cursor b bs (kind_at_separator b h) refl)

-- past a comment
pub comment_front : (cursor after : Cursor) (bs rest : List ℕ) → after ≡ past cursor Comment (47 ∷ run_of Comment bs) → rest ≡ rest_of Comment bs
    → stream after rest ≡ stream cursor (47 ∷ bs)
comment_front cursor after bs rest e f =
    ap (λ (a : Cursor). stream a rest) e ∙ ap (stream (past cursor Comment (47 ∷ run_of Comment bs))) f ∙ sym (stream_piece Comment cursor 47 bs refl refl)

pub its_characters : (kind : TokenKind) (cursor : Cursor) (characters characters' : List ℕ) (ahead : Ahead) → characters' ≡ characters
    → ahead ≡ Next (token_at kind cursor (length characters)) → AreItsCharacters ahead characters'
its_characters kind cursor characters characters' ahead e f = rw f (ap length (sym e))

within_step : (t : Bool) (start number more : ℕ) (place : Place) → start + (1 + more) ≤ 2097152 → number ≤ start → place.line ≤ start + 1 → place.column ≤ start + 1
    → IsWithin (record { start = start + 1; number = number + 0; place = cond t (record { line = place.line + 1; column = 1 }) (record { line = place.line; column = place.column + 1 }) }) more
within_step true start number more place s n l c = record { start = omega arith; number = omega arith; line = omega arith; column = omega arith }
within_step false start number more place s n l c = record { start = omega arith; number = omega arith; line = omega arith; column = omega arith }

pub within_separator : (cursor : Cursor) (b more : ℕ) → IsWithin cursor (1 + more) → IsWithin (past cursor Separator (b ∷ [])) more
within_separator cursor b more h = within_step (b == 10) cursor.start cursor.number more cursor.place h.start h.number h.line h.column

-- a text that ends
pub ended_front : (cursor : Cursor) (bs : List ℕ) → length bs < 1 → no_more (Finished cursor.place) ≡ stream cursor bs
ended_front cursor [] h = sym (stream-nil cursor)
ended_front cursor (b ∷ bs) h = absurd (omega arith)
