-- The tokens that the code finds are those of the cutting.
use Rattle.std.proofs.Common.{◌≡◌, ℕ, ◌+◌, true, List, [], ◌∷◌, ◌++◌, length, take, drop, ◌-◌, Option, refl, sym, ap, subst, ◌∙◌, arith, append_assoc, length-append, length-drop}
use Rattle.std.specs.Prelude.{fold, All}
use Rattle.std.proofs.lemmas.List.{append-nil, take_all}
use Rattle.std.proofs.lemmas.List.Sums.{fold-append}
use Rattle.std.proofs.lemmas.List.Elements.{All-nil, All-cons}
use Rattle.ssi_base.specs.declared.place.Place.{Place}
use Rattle.ssi_lexer.specs.declared.token.TextEnd.{TextEnd}
use Rattle.ssi_lexer.specs.declared.scan.Cursor.{Cursor}
use Rattle.ssi_lexer.specs.Pieces.{PieceKind, Separator, Comment, A, Piece, IsRun, is_piece, IsCutting, text_ends, bad_character, long_name, bad_number, a_piece}
use Rattle.ssi_lexer.specs.Lexemes.{Lexeme, first_place, place_past, place_after, lexeme_at, lexemes_of, bytes_of, end_at, AreTokens, IsLexeme}
use Rattle.ssi_lexer.specs.Scan.{cut_of, count_of, past, with_lexeme, stream_of, stream, Stream}
use Rattle.ssi_lexer.proofs.Cuttings.{cut_is, cut_unique}

-- where the text goes on, with so many tokens and these bytes before
abbrev cursor_at : ℕ → ℕ → List ℕ → Cursor
cursor_at start number before = record { start = start + length before; number = number; place = place_after before }

same_cursor : (s s' n n' : ℕ) (p p' : Place) → s ≡ s' → n ≡ n' → p ≡ p'
    → (let a : Cursor = record { start = s; number = n; place = p } in a) ≡ record { start = s'; number = n'; place = p' }
same_cursor s s' n n' p p' e f g = cc

same_count : (kind : PieceKind) (start number : ℕ) (before bytes : List ℕ) → number + count_of kind ≡ number + length (lexeme_at start number before kind bytes)
same_count Separator start number before bytes = refl
same_count Comment start number before bytes = refl
same_count (A kind) start number before bytes = refl

past_at : (start number : ℕ) (before : List ℕ) (piece : Piece)
    → past (cursor_at start number before) piece.kind piece.bytes
    ≡ cursor_at start (number + length (lexeme_at start number before piece.kind piece.bytes)) (before ++ piece.bytes)
past_at start number before piece =
    same_cursor (start + length before + length piece.bytes) (start + length (before ++ piece.bytes))
    (number + count_of piece.kind) (number + length (lexeme_at start number before piece.kind piece.bytes))
    (fold place_past (place_after before) piece.bytes) (place_after (before ++ piece.bytes))
    (omega (arith, length-append before piece.bytes)) (same_count piece.kind start number before piece.bytes)
    (sym (fold-append place_past first_place before piece.bytes))

with_lexeme_is : (kind : PieceKind) (start number : ℕ) (before bytes : List ℕ) (lexemes : List Lexeme) (end : TextEnd)
    → with_lexeme kind bytes (cursor_at start number before) (lexemes, end) ≡ (lexeme_at start number before kind bytes ++ lexemes, end)
with_lexeme_is Separator start number before bytes lexemes end = refl
with_lexeme_is Comment start number before bytes lexemes end = refl
with_lexeme_is (A kind) start number before bytes lexemes end = refl

stream_joins : (pieces : List Piece) (fault : Option ℕ) (start number : ℕ) (before : List ℕ)
    → stream_of (cursor_at start number before) pieces fault ≡ (lexemes_of start number before pieces, end_at (place_after (before ++ bytes_of pieces)) fault)
stream_joins [] fault start number before = ap (λ (bs : List ℕ). ([], end_at (place_after bs) fault)) (sym (append-nil before))
stream_joins (piece ∷ pieces) fault start number before =
    let here = lexeme_at start number before piece.kind piece.bytes in
    let more = lexemes_of start (number + length here) (before ++ piece.bytes) pieces in
    ap (λ (c : Cursor). with_lexeme piece.kind piece.bytes (cursor_at start number before) (stream_of c pieces fault)) (past_at start number before piece)
    ∙ ap (with_lexeme piece.kind piece.bytes (cursor_at start number before)) (stream_joins pieces fault start (number + length here) (before ++ piece.bytes))
    ∙ with_lexeme_is piece.kind start number before piece.bytes more (end_at (place_after ((before ++ piece.bytes) ++ bytes_of pieces)) fault)
    ∙ ap (λ (bs : List ℕ). (here ++ more, end_at (place_after bs) fault)) (append_assoc before piece.bytes (bytes_of pieces))

-- where a text is begun to be read
abbrev pub first_cursor : ℕ → Cursor
first_cursor start = record { start = start; number = 0; place = first_place }

first_is : (start : ℕ) → first_cursor start ≡ cursor_at start 0 []
first_is start = same_cursor start (start + 0) 0 0 first_place first_place (omega arith) refl refl

tokens_of_cut : (start : ℕ) (bs : List ℕ)
    → stream (first_cursor start) bs ≡ (lexemes_of start 0 [] (cut_of bs).pieces, end_at (place_after (bytes_of (cut_of bs).pieces)) (cut_of bs).fault)
tokens_of_cut start bs = ap (λ (c : Cursor). stream c bs) (first_is start) ∙ stream_joins (cut_of bs).pieces (cut_of bs).fault start 0 []

-- the tokens that the code finds are tokens of the text
pub tokens_are : (text : List ℕ) (start : ℕ) (found : Stream) → found ≡ stream (first_cursor start) (drop start text) → AreTokens text start found.0 found.1
tokens_are text start found e =
    let bs = drop start text in
    let whole = e ∙ tokens_of_cut start bs in
    record {
      pieces = (cut_of bs).pieces;
      fault = (cut_of bs).fault;
      cut = cut_is bs;
      lexemes_are = ap (λ (s : Stream). s.0) whole;
      end_is = ap (λ (s : Stream). s.1) whole;
    }

-- each text has tokens
pub some_tokens : (text : List ℕ) (start : ℕ) → (lexemes : List Lexeme) × (end : TextEnd) × AreTokens text start lexemes end
some_tokens text start =
    let found = stream (first_cursor start) (drop start text) in
    (found.0, found.1, tokens_are text start found refl)

-- tokens of the text are those that the code finds
pub tokens_unique : (text : List ℕ) (start : ℕ) (lexemes : List Lexeme) (end : TextEnd) → AreTokens text start lexemes end
    → (lexemes ≡ (stream (first_cursor start) (drop start text)).0) × (end ≡ (stream (first_cursor start) (drop start text)).1)
tokens_unique text start lexemes end t =
    let same = cut_unique t.pieces (drop start text) t.fault t.cut in
    let found = ap (λ cut. (lexemes_of start 0 [] cut.pieces, end_at (place_after (bytes_of cut.pieces)) cut.fault)) same in
    let whole = tokens_of_cut start (drop start text) ∙ found in
    (t.lexemes_are ∙ sym (ap (λ (s : Stream). s.0) whole), t.end_is ∙ sym (ap (λ (s : Stream). s.1) whole))

pub same_tokens : (text : List ℕ) (start : ℕ) (a b : List Lexeme) (e f : TextEnd) → AreTokens text start a e → AreTokens text start b f → (a ≡ b) × (e ≡ f)
same_tokens text start a b e f s t =
    let u = tokens_unique text start a e s in
    let v = tokens_unique text start b f t in
    (u.0 ∙ sym v.0, u.1 ∙ sym v.1)

-- each token of a cutting is a piece by itself
with_formed : (kind : PieceKind) (run rest : List ℕ) (cursor : Cursor) (s : Stream) → IsRun kind run rest → is_piece kind run ≡ true → All IsLexeme s.0
    → All IsLexeme (with_lexeme kind run cursor s).0
with_formed Separator run rest cursor s r p h = h
with_formed Comment run rest cursor s r p h = h
with_formed (A kind) run rest cursor s r p h =
    All-cons IsLexeme (record { kind = kind; text = run; start = cursor.start; number = cursor.number; place = cursor.place }) s.0
    (record {
      run = record { first = r.first; more = r.more; bytes_are = r.bytes_are; begun = r.begun; longer = r.longer; whole = tt };
      piece = p;
    }) h

formed : (pieces : List Piece) (bs : List ℕ) (fault : Option ℕ) → IsCutting pieces bs fault → (cursor : Cursor) → All IsLexeme (stream_of cursor pieces fault).0
formed _ _ _ text_ends cursor = All-nil IsLexeme
formed _ _ _ (bad_character b rest h) cursor = All-nil IsLexeme
formed _ _ _ (long_name run rest r p) cursor = All-nil IsLexeme
formed _ _ _ (bad_number run rest r p) cursor = All-nil IsLexeme
formed _ _ _ (a_piece kind run rest pieces fault r p d) cursor =
    with_formed kind run rest cursor (stream_of (past cursor kind run) pieces fault) r p (formed pieces rest fault d (past cursor kind run))

pub stream_formed : (cursor : Cursor) (bs : List ℕ) → All IsLexeme (stream cursor bs).0
stream_formed cursor bs = formed (cut_of bs).pieces bs (cut_of bs).fault (cut_is bs) cursor

-- so is each that is found from the front of a text
pub front_formed : (cursor : Cursor) (bs : List ℕ) (found : Stream) → found ≡ stream cursor bs → All IsLexeme found.0
front_formed cursor bs found e = subst (λ (s : Stream). All IsLexeme s.0) (sym e) (stream_formed cursor bs)

pub tokens_formed : (text : List ℕ) (start : ℕ) (lexemes : List Lexeme) (end : TextEnd) → AreTokens text start lexemes end → All IsLexeme lexemes
tokens_formed text start lexemes end t =
    subst (All IsLexeme) (sym (tokens_unique text start lexemes end t).0) (stream_formed (first_cursor start) (drop start text))

-- what is left of a text from a byte on
pub from_byte : (start : ℕ) (text : List ℕ) → stream (first_cursor start) (take (length text - start) (drop start text)) ≡ stream (first_cursor start) (drop start text)
from_byte start text = ap (stream (first_cursor start)) (take_all (length text - start) (drop start text) (omega (arith, length-drop start text)))
