-- Runs of bytes that make a piece longer, and the places after them.
use Rattle.std.proofs.Common.{◌≡◌, ℕ, suc, ◌+◌, ◌≤◌, Bool, true, false, cond, List, [], ◌∷◌, length, take, drop, refl, ◌⊎◌, inl, inr, sym, ap, ◌∙◌, arith}
use Rattle.std.specs.Prelude.{◌==◌, fold}
use Rattle.std.specs.List.{prefix_len}
use Rattle.std.proofs.lemmas.Bool.Decides.{nat_tests}
use Rattle.std.proofs.lemmas.Grind.{common_steps}
use Rattle.ssi_base.specs.declared.place.Place.{Place}
use Rattle.ssi_lexer.specs.declared.token.TokenKind.{TokenKind}
use Rattle.ssi_lexer.specs.declared.token.TokenKind.TheVariants.{Name, Word, Number, Comma, Dot, Open, Close}
use Rattle.ssi_lexer.specs.Pieces.{PieceKind, Separator, Comment, A, begins, lengthens}
use Rattle.ssi_lexer.specs.Lexemes.{place_past}
use Rattle.ssi_lexer.specs.declared.scan.Cursor.{Cursor}
use Rattle.ssi_lexer.specs.Scan.{run_of, rest_of, count_of, past}

take_step : (t : Bool) (n b : ℕ) (bs run : List ℕ) → take n bs ≡ run → take (cond t (1 + n) 0) (b ∷ bs) ≡ cond t (b ∷ run) []
take_step true n b bs run e = grind (arith, common_steps)
take_step false n b bs run e = refl

pub take_is_run : (kind : PieceKind) (bs : List ℕ) → take (prefix_len (lengthens kind) bs) bs ≡ run_of kind bs
take_is_run kind [] = refl
take_is_run kind (b ∷ bs) = take_step (lengthens kind b) (prefix_len (lengthens kind) bs) b bs (run_of kind bs) (take_is_run kind bs)

drop_step : (t : Bool) (n b : ℕ) (bs rest : List ℕ) → drop n bs ≡ rest → drop (cond t (1 + n) 0) (b ∷ bs) ≡ cond t rest (b ∷ bs)
drop_step true n b bs rest e = grind (arith, common_steps)
drop_step false n b bs rest e = refl

pub drop_is_rest : (kind : PieceKind) (bs : List ℕ) → drop (prefix_len (lengthens kind) bs) bs ≡ rest_of kind bs
drop_is_rest kind [] = refl
drop_is_rest kind (b ∷ bs) = drop_step (lengthens kind b) (prefix_len (lengthens kind) bs) b bs (rest_of kind bs) (drop_is_rest kind bs)

rest_step : (t : Bool) (b : ℕ) (bs rest : List ℕ) → length rest ≤ length bs → length (cond t rest (b ∷ bs)) ≤ length (b ∷ bs)
rest_step true b bs rest h = omega arith
rest_step false b bs rest h = omega arith

pub rest_shorter : (kind : PieceKind) (bs : List ℕ) → length (rest_of kind bs) ≤ length bs
rest_shorter kind [] = omega arith
rest_shorter kind (b ∷ bs) = rest_step (lengthens kind b) b bs (rest_of kind bs) (rest_shorter kind bs)

-- nothing makes a mark longer
pub prefix_len-none : (bs : List ℕ) → prefix_len (λ (b : ℕ). false) bs ≡ 0
prefix_len-none [] = refl
prefix_len-none (b ∷ bs) = refl

-- no line feed makes a piece longer
pub no_feed_lengthens : (kind : PieceKind) (b : ℕ) → lengthens kind b ≡ true → (b == 10) ≡ false
no_feed_lengthens Separator b h = cc
no_feed_lengthens Comment b h = grind (arith, nat_tests)
no_feed_lengthens (A Name) b h = grind (arith, nat_tests)
no_feed_lengthens (A Word) b h = grind (arith, nat_tests)
no_feed_lengthens (A Number) b h = grind (arith, nat_tests)
no_feed_lengthens (A Comma) b h = cc
no_feed_lengthens (A Dot) b h = cc
no_feed_lengthens (A Open) b h = cc
no_feed_lengthens (A Close) b h = cc

-- no token begins with a line feed
pub no_feed_begins : (kind : TokenKind) (b : ℕ) → begins (A kind) b ≡ true → (b == 10) ≡ false
no_feed_begins Name b h = grind (arith, nat_tests)
no_feed_begins Word b h = grind (arith, nat_tests)
no_feed_begins Number b h = grind (arith, nat_tests)
no_feed_begins Comma b h = grind (arith, nat_tests)
no_feed_begins Dot b h = grind (arith, nat_tests)
no_feed_begins Open b h = grind (arith, nat_tests)
no_feed_begins Close b h = grind (arith, nat_tests)

-- so many columns on
abbrev pub along : Place → ℕ → Place
along place count = record { line = place.line; column = place.column + count }

pub place_past_other : (place : Place) (b : ℕ) → (b == 10) ≡ false → place_past place b ≡ along place 1
place_past_other place b h = ap (λ t. cond t (record { line = place.line + 1; column = 1 }) (along place 1)) h

along_more : (place : Place) (n : ℕ) → along (along place 1) n ≡ along place (suc n)
along_more place n = ap (λ (k : ℕ). record { line = place.line; column = k }) (omega arith)

run_step : (t : Bool) (kind : PieceKind) (b : ℕ) (run : List ℕ) (place : Place) → lengthens kind b ≡ t → ((from : Place) → fold place_past from run ≡ along from (length run))
    → fold place_past place (cond t (b ∷ run) []) ≡ along place (length (cond t (b ∷ run) []))
run_step true kind b run place e h =
    ap (λ (from : Place). fold place_past from run) (place_past_other place b (no_feed_lengthens kind b e)) ∙ h (along place 1) ∙ along_more place (length run)
run_step false kind b run place e h = ap (λ (k : ℕ). record { line = place.line; column = k }) (omega arith)

-- a run of one piece stands on one line
pub place-run : (kind : PieceKind) (bs : List ℕ) (place : Place) → fold place_past place (run_of kind bs) ≡ along place (length (run_of kind bs))
place-run kind [] place = ap (λ (k : ℕ). record { line = place.line; column = k }) (omega arith)
place-run kind (b ∷ bs) place = run_step (lengthens kind b) kind b (run_of kind bs) place refl (λ from. place-run kind bs from)

pub place-piece : (kind : PieceKind) (b : ℕ) (bs : List ℕ) (place : Place) → (b == 10) ≡ false
    → fold place_past place (b ∷ run_of kind bs) ≡ along place (suc (length (run_of kind bs)))
place-piece kind b bs place h =
    ap (λ (from : Place). fold place_past from (run_of kind bs)) (place_past_other place b h) ∙ place-run kind bs (along place 1) ∙ along_more place (length (run_of kind bs))

-- nothing makes a mark longer
pub prefix_len-mark : (kind : TokenKind) (bs : List ℕ) → (kind ≡ Comma) ⊎ ((kind ≡ Dot) ⊎ ((kind ≡ Open) ⊎ (kind ≡ Close))) → prefix_len (lengthens (A kind)) bs ≡ 0
prefix_len-mark kind bs (inl e) = rw e (prefix_len-none bs)
prefix_len-mark kind bs (inr (inl e)) = rw e (prefix_len-none bs)
prefix_len-mark kind bs (inr (inr (inl e))) = rw e (prefix_len-none bs)
prefix_len-mark kind bs (inr (inr (inr e))) = rw e (prefix_len-none bs)

pub take_run : (kind : PieceKind) (n : ℕ) (bs : List ℕ) → n ≡ prefix_len (lengthens kind) bs → take n bs ≡ run_of kind bs
take_run kind n bs e = ap (λ (k : ℕ). take k bs) e ∙ take_is_run kind bs

pub drop_rest : (kind : PieceKind) (n : ℕ) (bs : List ℕ) → n ≡ prefix_len (lengthens kind) bs → drop n bs ≡ rest_of kind bs
drop_rest kind n bs e = ap (λ (k : ℕ). drop k bs) e ∙ drop_is_rest kind bs

same_cursor : (s s' n n' : ℕ) (p p' : Place) → s ≡ s' → n ≡ n' → p ≡ p' → (let a : Cursor = record { start = s; number = n; place = p } in a) ≡ record { start = s'; number = n'; place = p' }
same_cursor s s' n n' p p' e f g = cc

-- past a piece that begins with no line feed
pub past_piece : (kind : PieceKind) (cursor : Cursor) (b : ℕ) (bs : List ℕ) (count number : ℕ) → (b == 10) ≡ false → count ≡ 1 + length (run_of kind bs) → number ≡ cursor.number + count_of kind
    → (let a : Cursor = record { start = cursor.start + count; number = number; place = along cursor.place count } in a) ≡ past cursor kind (b ∷ run_of kind bs)
past_piece kind cursor b bs count number h e f =
    let more : count ≡ suc (length (run_of kind bs)) = omega arith in
    same_cursor (cursor.start + count) (cursor.start + suc (length (run_of kind bs))) number (cursor.number + count_of kind) (along cursor.place count) (fold place_past cursor.place (b ∷ run_of kind bs))
    (ap (λ (k : ℕ). cursor.start + k) more) f (ap (along cursor.place) more ∙ sym (place-piece kind b bs cursor.place h))

pub take_piece : (kind : PieceKind) (n b : ℕ) (bs : List ℕ) → n ≡ prefix_len (lengthens kind) bs → take (1 + n) (b ∷ bs) ≡ b ∷ run_of kind bs
take_piece kind n b bs e = take_step true n b bs (run_of kind bs) (take_run kind n bs e)

pub drop_piece : (kind : PieceKind) (n b : ℕ) (bs : List ℕ) → n ≡ prefix_len (lengthens kind) bs → drop (1 + n) (b ∷ bs) ≡ rest_of kind bs
drop_piece kind n b bs e = drop_step true n b bs (rest_of kind bs) (drop_rest kind n bs e)
