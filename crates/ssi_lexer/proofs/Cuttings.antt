-- The pieces that the code cuts are the one cutting of the text.
use Rattle.std.proofs.Common.{◌≡◌, ℕ, zero, suc, ◌≤◌, Bool, true, false, cond, List, [], ◌∷◌, ◌++◌, length, Option, Some, None, refl, sym, ap, subst, ◌∙◌, arith}
use Rattle.std.specs.Prelude.{◌&&◌}
use Rattle.std.specs.List.{list_all}
use Rattle.std.proofs.lemmas.List.Sums.{AllPass-from_list_all, list_all-from_AllPass}
use Rattle.ssi_lexer.specs.declared.token.TokenKind.TheVariants.{Name, Word, Number, Comma, Dot, Open, Close}
use Rattle.ssi_lexer.specs.Pieces.{PieceKind, Separator, Comment, A, Piece, begins, lengthens, Stops, IsRun, is_piece, IsCutting, text_ends, bad_character, long_name, bad_number, a_piece}
use Rattle.ssi_lexer.specs.Scan.{kind_at, run_of, rest_of, Cut, with_piece, begun, cut_within, cut_of}
use Rattle.ssi_lexer.proofs.Runs.{rest_shorter}
use Rattle.ssi_lexer.proofs.Begins.{begins_at, begins_none, kind_at-begun, kind_at-none}
use Rattle.ssi_lexer.proofs.Cuts.{cut_of-nil, cut_of-cons, cut_of_piece}

joined_step : (t : Bool) (b : ℕ) (bs run rest : List ℕ) → run ++ rest ≡ bs → cond t (b ∷ run) [] ++ cond t rest (b ∷ bs) ≡ b ∷ bs
joined_step true b bs run rest e = ap (λ (xs : List ℕ). b ∷ xs) e
joined_step false b bs run rest e = refl

run-append-rest : (kind : PieceKind) (bs : List ℕ) → run_of kind bs ++ rest_of kind bs ≡ bs
run-append-rest kind [] = refl
run-append-rest kind (b ∷ bs) = joined_step (lengthens kind b) b bs (run_of kind bs) (rest_of kind bs) (run-append-rest kind bs)

passes_step : (p : ℕ → Bool) (t : Bool) (b : ℕ) (run : List ℕ) → p b ≡ t → list_all p run ≡ true → list_all p (cond t (b ∷ run) []) ≡ true
passes_step p true b run e h = ap (λ t. t && list_all p run) e ∙ h
passes_step p false b run e h = refl

run_passes : (kind : PieceKind) (bs : List ℕ) → list_all (lengthens kind) (run_of kind bs) ≡ true
run_passes kind [] = refl
run_passes kind (b ∷ bs) = passes_step (lengthens kind) (lengthens kind b) b (run_of kind bs) refl (run_passes kind bs)

stops_step : (kind : PieceKind) (t : Bool) (b : ℕ) (bs rest : List ℕ) → lengthens kind b ≡ t → Stops kind rest → Stops kind (cond t rest (b ∷ bs))
stops_step kind true b bs rest e h = h
stops_step kind false b bs rest e h = e

rest_stops : (kind : PieceKind) (bs : List ℕ) → Stops kind (rest_of kind bs)
rest_stops kind [] = tt
rest_stops kind (b ∷ bs) = stops_step kind (lengthens kind b) b bs (rest_of kind bs) refl (rest_stops kind bs)

is_run : (kind : PieceKind) (b : ℕ) (bs : List ℕ) → kind_at b ≡ Some kind → IsRun kind (b ∷ run_of kind bs) (rest_of kind bs)
is_run kind b bs e = record {
  first = b;
  more = run_of kind bs;
  bytes_are = refl;
  begun = begins_at b kind e;
  longer = AllPass-from_list_all (lengthens kind) (run_of kind bs) (run_passes kind bs);
  whole = rest_stops kind bs;
}

-- what the code cuts is a cutting
abbrev IsCut : List ℕ → Cut → Type 0
IsCut bs cut = IsCutting cut.pieces bs cut.fault

joined_piece : (kind : PieceKind) (b : ℕ) (bs : List ℕ) → (b ∷ run_of kind bs) ++ rest_of kind bs ≡ b ∷ bs
joined_piece kind b bs = ap (λ (xs : List ℕ). b ∷ xs) (run-append-rest kind bs)

fault_is_cut : (kind : PieceKind) (b : ℕ) (bs : List ℕ) (cut : Cut) → kind_at b ≡ Some kind → is_piece kind (b ∷ run_of kind bs) ≡ false
    → IsCut (b ∷ bs) (with_piece false kind (b ∷ run_of kind bs) cut)
fault_is_cut (A Name) b bs cut e p =
    subst (λ (text : List ℕ). IsCut text (with_piece false (A Name) (b ∷ run_of (A Name) bs) cut)) (joined_piece (A Name) b bs)
    (long_name (b ∷ run_of (A Name) bs) (rest_of (A Name) bs) (is_run (A Name) b bs e) p)
fault_is_cut (A Number) b bs cut e p =
    subst (λ (text : List ℕ). IsCut text (with_piece false (A Number) (b ∷ run_of (A Number) bs) cut)) (joined_piece (A Number) b bs)
    (bad_number (b ∷ run_of (A Number) bs) (rest_of (A Number) bs) (is_run (A Number) b bs e) p)
fault_is_cut Separator b bs cut e p = absurd cc
fault_is_cut Comment b bs cut e p = absurd cc
fault_is_cut (A Word) b bs cut e p = absurd cc
fault_is_cut (A Comma) b bs cut e p = absurd cc
fault_is_cut (A Dot) b bs cut e p = absurd cc
fault_is_cut (A Open) b bs cut e p = absurd cc
fault_is_cut (A Close) b bs cut e p = absurd cc

piece_is_cut : (t : Bool) (kind : PieceKind) (b : ℕ) (bs : List ℕ) (cut : Cut) → is_piece kind (b ∷ run_of kind bs) ≡ t → kind_at b ≡ Some kind
    → IsCut (rest_of kind bs) cut → IsCut (b ∷ bs) (with_piece t kind (b ∷ run_of kind bs) cut)
piece_is_cut true kind b bs cut p e h =
    subst (λ (text : List ℕ). IsCut text (with_piece true kind (b ∷ run_of kind bs) cut)) (joined_piece kind b bs)
    (a_piece kind (b ∷ run_of kind bs) (rest_of kind bs) cut.pieces cut.fault (is_run kind b bs e) p h)
piece_is_cut false kind b bs cut p e h = fault_is_cut kind b bs cut e p

begun_is_cut : (o : Option PieceKind) (b : ℕ) (bs : List ℕ) (after : PieceKind → Cut) → kind_at b ≡ o
    → ((kind : PieceKind) → IsCut (rest_of kind bs) (after kind)) → IsCut (b ∷ bs) (begun o b bs after)
begun_is_cut None b bs after e h = bad_character b bs (begins_none b e)
begun_is_cut (Some kind) b bs after e h = piece_is_cut (is_piece kind (b ∷ run_of kind bs)) kind b bs (after kind) refl e (h kind)

cut_within_is : (n : ℕ) (bs : List ℕ) → length bs ≤ n → IsCut bs (cut_within n bs)
unfolding cut_within
cut_within_is zero [] h = text_ends
cut_within_is zero (b ∷ bs) h = absurd (omega arith)
cut_within_is (suc n) [] h = text_ends
cut_within_is (suc n) (b ∷ bs) h =
    begun_is_cut (kind_at b) b bs (λ kind. cut_within n (rest_of kind bs)) refl
    (λ kind. let less = rest_shorter kind bs in cut_within_is n (rest_of kind bs) (omega arith))

pub cut_is : (bs : List ℕ) → IsCutting (cut_of bs).pieces bs (cut_of bs).fault
cut_is bs = cut_within_is (length bs) bs (omega arith)

-- any cutting is what the code cuts
both : (s t : Bool) → (s && t) ≡ true → (s ≡ true) × (t ≡ true)
both true t h = (refl, h)
both false t h = absurd cc

run_of-stopped : (kind : PieceKind) (rest : List ℕ) → Stops kind rest → run_of kind rest ≡ []
run_of-stopped kind [] h = refl
run_of-stopped kind (b ∷ rest) h = ap (λ t. cond t (b ∷ run_of kind rest) []) h

rest_of-stopped : (kind : PieceKind) (rest : List ℕ) → Stops kind rest → rest_of kind rest ≡ rest
rest_of-stopped kind [] h = refl
rest_of-stopped kind (b ∷ rest) h = ap (λ t. cond t (rest_of kind rest) (b ∷ rest)) h

run_of-append : (kind : PieceKind) (more rest : List ℕ) → list_all (lengthens kind) more ≡ true → Stops kind rest → run_of kind (more ++ rest) ≡ more
run_of-append kind [] rest h s = run_of-stopped kind rest s
run_of-append kind (b ∷ more) rest h s =
    let parts = both (lengthens kind b) (list_all (lengthens kind) more) h in
    ap (λ t. cond t (b ∷ run_of kind (more ++ rest)) []) parts.0 ∙ ap (λ (xs : List ℕ). b ∷ xs) (run_of-append kind more rest parts.1 s)

rest_of-append : (kind : PieceKind) (more rest : List ℕ) → list_all (lengthens kind) more ≡ true → Stops kind rest → rest_of kind (more ++ rest) ≡ rest
rest_of-append kind [] rest h s = rest_of-stopped kind rest s
rest_of-append kind (b ∷ more) rest h s =
    let parts = both (lengthens kind b) (list_all (lengthens kind) more) h in
    ap (λ t. cond t (rest_of kind (more ++ rest)) (b ∷ (more ++ rest))) parts.0 ∙ rest_of-append kind more rest parts.1 s

cut_of-begun : (kind : PieceKind) (first : ℕ) (more rest : List ℕ) → begins kind first ≡ true → list_all (lengthens kind) more ≡ true → Stops kind rest
    → cut_of (first ∷ (more ++ rest)) ≡ with_piece (is_piece kind (first ∷ more)) kind (first ∷ more) (cut_of rest)
cut_of-begun kind first more rest e h s =
    cut_of_piece kind first (more ++ rest) (kind_at-begun first kind e)
    ∙ ap (λ (run : List ℕ). with_piece (is_piece kind (first ∷ run)) kind (first ∷ run) (cut_of (rest_of kind (more ++ rest)))) (run_of-append kind more rest h s)
    ∙ ap (λ (left : List ℕ). with_piece (is_piece kind (first ∷ more)) kind (first ∷ more) (cut_of left)) (rest_of-append kind more rest h s)

cut_of-run : (kind : PieceKind) (run rest : List ℕ) → IsRun kind run rest → cut_of (run ++ rest) ≡ with_piece (is_piece kind run) kind run (cut_of rest)
cut_of-run kind run rest r =
    ap (λ (bytes : List ℕ). cut_of (bytes ++ rest)) r.bytes_are
    ∙ cut_of-begun kind r.first r.more rest r.begun (list_all-from_AllPass (lengthens kind) r.more r.longer) r.whole
    ∙ ap (λ (bytes : List ℕ). with_piece (is_piece kind bytes) kind bytes (cut_of rest)) (sym r.bytes_are)

abbrev the_cut : List Piece → Option ℕ → Cut
the_cut pieces fault = record { pieces = pieces; fault = fault }

pub cut_unique : (pieces : List Piece) (bs : List ℕ) (fault : Option ℕ) → IsCutting pieces bs fault → cut_of bs ≡ the_cut pieces fault
cut_unique _ _ _ text_ends = cut_of-nil
cut_unique _ _ _ (bad_character b rest h) = cut_of-cons b rest ∙ ap (λ (o : Option PieceKind). begun o b rest (λ kind. cut_of (rest_of kind rest))) (kind_at-none b h)
cut_unique _ _ _ (long_name run rest r p) = cut_of-run (A Name) run rest r ∙ ap (λ t. with_piece t (A Name) run (cut_of rest)) p
cut_unique _ _ _ (bad_number run rest r p) = cut_of-run (A Number) run rest r ∙ ap (λ t. with_piece t (A Number) run (cut_of rest)) p
cut_unique _ _ _ (a_piece kind run rest pieces fault r p d) =
    cut_of-run kind run rest r ∙ ap (λ t. with_piece t kind run (cut_of rest)) p ∙ ap (with_piece true kind run) (cut_unique pieces rest fault d)
