-- Cutting a text piece by piece.
use Rattle.std.proofs.Common.{◌≡◌, ℕ, zero, suc, ◌≤◌, true, false, List, [], ◌∷◌, length, Option, Some, None, refl, ap, ◌∙◌, arith}
use Rattle.ssi_lexer.specs.declared.token.TextEnd.TheVariants.{Finished, Faulty}
use Rattle.ssi_lexer.specs.declared.scan.Cursor.{Cursor}
use Rattle.ssi_lexer.specs.Pieces.{PieceKind, is_piece, bad_character_code}
use Rattle.ssi_lexer.specs.Scan.{kind_at, run_of, rest_of, Cut, with_piece, begun, cut_within, cut_of, code_of, past, with_lexeme, stream_by, stream}
use Rattle.ssi_lexer.proofs.Runs.{rest_shorter}

same_begun : (o : Option PieceKind) (b : ℕ) (bs : List ℕ) (f g : PieceKind → Cut) → ((kind : PieceKind) → f kind ≡ g kind) → begun o b bs f ≡ begun o b bs g
same_begun None b bs f g h = refl
same_begun (Some kind) b bs f g h = ap (with_piece (is_piece kind (b ∷ run_of kind bs)) kind (b ∷ run_of kind bs)) (h kind)

-- the count of bytes is enough to cut a text
pub same_cut : (n m : ℕ) (bs : List ℕ) → length bs ≤ n → length bs ≤ m → cut_within n bs ≡ cut_within m bs
unfolding cut_within
same_cut zero zero bs h k = refl
same_cut zero (suc m) [] h k = refl
same_cut zero (suc m) (b ∷ bs) h k = absurd (omega arith)
same_cut (suc n) zero [] h k = refl
same_cut (suc n) zero (b ∷ bs) h k = absurd (omega arith)
same_cut (suc n) (suc m) [] h k = refl
same_cut (suc n) (suc m) (b ∷ bs) h k =
    same_begun (kind_at b) b bs (λ kind. cut_within n (rest_of kind bs)) (λ kind. cut_within m (rest_of kind bs))
    (λ kind. let less = rest_shorter kind bs in same_cut n m (rest_of kind bs) (omega arith) (omega arith))

pub cut_of-nil : cut_of [] ≡ record { pieces = []; fault = None }
unfolding cut_within
cut_of-nil = refl

pub cut_of-cons : (b : ℕ) (bs : List ℕ) → cut_of (b ∷ bs) ≡ begun (kind_at b) b bs (λ kind. cut_of (rest_of kind bs))
unfolding cut_within
cut_of-cons b bs =
    same_begun (kind_at b) b bs (λ kind. cut_within (length bs) (rest_of kind bs)) (λ kind. cut_of (rest_of kind bs))
    (λ kind. same_cut (length bs) (length (rest_of kind bs)) (rest_of kind bs) (rest_shorter kind bs) (omega arith))

pub cut_of_piece : (kind : PieceKind) (b : ℕ) (bs : List ℕ) → kind_at b ≡ Some kind
    → cut_of (b ∷ bs) ≡ with_piece (is_piece kind (b ∷ run_of kind bs)) kind (b ∷ run_of kind bs) (cut_of (rest_of kind bs))
cut_of_piece kind b bs e = cut_of-cons b bs ∙ ap (λ (o : Option PieceKind). begun o b bs (λ kind. cut_of (rest_of kind bs))) e

pub stream-nil : (cursor : Cursor) → stream cursor [] ≡ ([], Finished cursor.place)
stream-nil cursor = ap (stream_by cursor) cut_of-nil

-- a piece in front
pub stream_piece : (kind : PieceKind) (cursor : Cursor) (b : ℕ) (bs : List ℕ) → kind_at b ≡ Some kind → is_piece kind (b ∷ run_of kind bs) ≡ true
    → stream cursor (b ∷ bs) ≡ with_lexeme kind (b ∷ run_of kind bs) cursor (stream (past cursor kind (b ∷ run_of kind bs)) (rest_of kind bs))
stream_piece kind cursor b bs e p =
    ap (stream_by cursor) (cut_of_piece kind b bs e ∙ ap (λ t. with_piece t kind (b ∷ run_of kind bs) (cut_of (rest_of kind bs))) p)

-- a run in front that is no piece
pub stream_fault : (kind : PieceKind) (cursor : Cursor) (b : ℕ) (bs : List ℕ) → kind_at b ≡ Some kind → is_piece kind (b ∷ run_of kind bs) ≡ false
    → stream cursor (b ∷ bs) ≡ ([], Faulty (record { code = code_of kind; place = cursor.place }))
stream_fault kind cursor b bs e p =
    ap (stream_by cursor) (cut_of_piece kind b bs e ∙ ap (λ t. with_piece t kind (b ∷ run_of kind bs) (cut_of (rest_of kind bs))) p)

-- a byte in front that begins no piece
pub stream_bad : (cursor : Cursor) (b : ℕ) (bs : List ℕ) → kind_at b ≡ None
    → stream cursor (b ∷ bs) ≡ ([], Faulty (record { code = bad_character_code; place = cursor.place }))
stream_bad cursor b bs e =
    ap (stream_by cursor) (cut_of-cons b bs ∙ ap (λ (o : Option PieceKind). begun o b bs (λ kind. cut_of (rest_of kind bs))) e)
