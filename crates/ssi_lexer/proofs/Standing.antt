-- The tokens of a text stand in it.
use Rattle.std.proofs.Common.{◌≡◌, ℕ, ◌+◌, ◌-◌, ◌≤◌, List, ◌++◌, length, take, drop, Option, refl, sym, ap, subst, ◌∙◌, arith, append_assoc, length-append, length-take}
use Rattle.std.specs.Prelude.{All, slice_range}
use Rattle.std.proofs.Math.Seq.{drop-append_seam, take-append_seam}
use Rattle.std.proofs.lemmas.List.{take-append-drop}
use Rattle.std.proofs.lemmas.List.Elements.{All-nil, All-cons, All-tail}
use Rattle.ssi_lexer.specs.declared.token.Token.{Token}
use Rattle.ssi_lexer.specs.declared.token.TextEnd.{TextEnd}
use Rattle.ssi_lexer.specs.declared.scan.Cursor.{Cursor}
use Rattle.ssi_lexer.specs.declared.scan.Ahead.{Ahead}
use Rattle.ssi_lexer.specs.declared.scan.Ahead.TheVariants.{Next, End}
use Rattle.ssi_lexer.specs.Pieces.{PieceKind, Separator, Comment, A, Piece, IsCutting, text_ends, bad_character, long_name, bad_number, a_piece}
use Rattle.ssi_lexer.specs.Lexemes.{Lexeme, AreTokens, StandsIn}
use Rattle.ssi_lexer.specs.Scan.{cut_of, past, with_lexeme, stream_of, stream, lexeme_of, goes_on, Stream}
use Rattle.ssi_lexer.proofs.Cuttings.{cut_is}
use Rattle.ssi_lexer.proofs.Streams.{first_cursor, tokens_unique}

part_is : (before run rest : List ℕ) (start : ℕ) → length before ≡ start → slice_range (before ++ (run ++ rest)) start (start + length run) ≡ run
part_is before run rest start e =
    let count : start + length run - start ≡ length run = omega arith in
    ap (λ (n : ℕ). take n (drop start (before ++ (run ++ rest)))) count
    ∙ ap (λ (n : ℕ). take (length run) (drop n (before ++ (run ++ rest)))) (sym e)
    ∙ ap (take (length run)) (drop-append_seam before (run ++ rest))
    ∙ take-append_seam run rest

stands : (kind : PieceKind) (text before run rest : List ℕ) (cursor : Cursor) (s : Stream) → length before ≡ cursor.start → text ≡ before ++ (run ++ rest)
    → All (StandsIn text) s.0 → All (StandsIn text) (with_lexeme kind run cursor s).0
stands Separator text before run rest cursor s e f h = h
stands Comment text before run rest cursor s e f h = h
stands (A kind) text before run rest cursor s e f h =
    All-cons (StandsIn text) (record { kind = kind; text = run; start = cursor.start; number = cursor.number; place = cursor.place }) s.0
    (record {
      within = omega (arith, ap length f, length-append before (run ++ rest), length-append run rest);
      there = ap (λ (bs : List ℕ). slice_range bs cursor.start (cursor.start + length run)) f ∙ part_is before run rest cursor.start e;
    }) h

all_stand : (pieces : List Piece) (bs : List ℕ) (fault : Option ℕ) → IsCutting pieces bs fault → (text before : List ℕ) (cursor : Cursor)
    → length before ≡ cursor.start → text ≡ before ++ bs → All (StandsIn text) (stream_of cursor pieces fault).0
all_stand _ _ _ text_ends text before cursor e f = All-nil (StandsIn text)
all_stand _ _ _ (bad_character b rest h) text before cursor e f = All-nil (StandsIn text)
all_stand _ _ _ (long_name run rest r p) text before cursor e f = All-nil (StandsIn text)
all_stand _ _ _ (bad_number run rest r p) text before cursor e f = All-nil (StandsIn text)
all_stand _ _ _ (a_piece kind run rest pieces fault r p d) text before cursor e f =
    stands kind text before run rest cursor (stream_of (past cursor kind run) pieces fault) e f
    (all_stand pieces rest fault d text (before ++ run) (past cursor kind run) (omega (arith, length-append before run)) (f ∙ sym (append_assoc before run rest)))

pub stream_stands : (text : List ℕ) (start : ℕ) (found : Stream) → start ≤ length text → found ≡ stream (first_cursor start) (drop start text) → All (StandsIn text) found.0
stream_stands text start found h e =
    let bs = drop start text in
    subst (λ (s : Stream). All (StandsIn text) s.0) (sym e)
    (all_stand (cut_of bs).pieces bs (cut_of bs).fault (cut_is bs) text (take start text) (first_cursor start) (omega (arith, length-take start text)) (sym (take-append-drop start text)))

pub tokens_stand_in : (text : List ℕ) (start : ℕ) (lexemes : List Lexeme) (end : TextEnd) → start ≤ length text → AreTokens text start lexemes end → All (StandsIn text) lexemes
tokens_stand_in text start lexemes end h t =
    subst (All (StandsIn text)) (sym (tokens_unique text start lexemes end t).0) (stream_stands text start (stream (first_cursor start) (drop start text)) h refl)

-- those after the first stand there too
pub others_stand : (text : List ℕ) (ahead : Ahead) (characters : List ℕ) (more found : Stream) (token : Token) → ahead ≡ Next token → found ≡ more
    → All (StandsIn text) (goes_on ahead characters more).0 → All (StandsIn text) found.0
others_stand text (Next t) characters more found token e f h =
    subst (λ (s : Stream). All (StandsIn text) s.0) (sym f) (All-tail (StandsIn text) (lexeme_of t characters) more.0 h)
others_stand text (End end) characters more found token e f h = absurd cc
