-- A text that is the one piece of an answer, and a last line behind the pieces of a script.
use Rattle.std.proofs.Common.{◌≡◌, ℕ, List, [], ◌∷◌, ◌++◌, Option, Continue, Result, Ok, Err, IsOk, refl, sym, ap, subst, ◌∙◌, append_assoc}
use Rattle.std.proofs.lemmas.List.{append-nil}
use Rattle.std.specs.Io.KnownBytes.{Appends}
use Rattle.std.specs.Result.{result_from_control_flow}
use Rattle.std.proofs.KnownBytes.{Appends-trans}
use Rattle.ssi_base.specs.Faults.{Faults, GoesOn}
use Rattle.ssi_base.specs.Streams.{Writes}
use Rattle.ssi_base.proofs.Writing.{GoesOn-trans, Rose-before}
use Rattle.ssi_trackside.specs.Module.{ModuleState}
use Rattle.ssi_script.specs.Traces.{ShelfPiece, text_of}
use Rattle.ssi_run.specs.Stops.{left_by, GoesThrough, StopsIn, WritesPieces}

-- a text, and the modules as they stand when it is written
abbrev pub piece_of : List ℕ → List ModuleState → ShelfPiece
piece_of text shelf = record { text = text; standing = shelf }

text_behind : (front : List ShelfPiece) (piece : ShelfPiece) → text_of (front ++ piece ∷ []) ≡ text_of front ++ piece.text
text_behind [] piece = append-nil piece.text
text_behind (first ∷ front) piece = ap (λ (t : List ℕ). first.text ++ t) (text_behind front piece) ∙ sym (append_assoc first.text (text_of front) piece.text)

pub left_behind : (shelf : List ModuleState) (front : List ShelfPiece) (piece : ShelfPiece) → left_by shelf (front ++ piece ∷ []) ≡ piece.standing
left_behind shelf [] piece = refl
left_behind shelf (first ∷ front) piece = left_behind first.standing front piece

module _ {T E : Type 0} {old new : Option (List ℕ)} {a b : Faults} where
  -- a text that is written alone, which does nothing to the modules
  pub writes_alone : (shelf : List ModuleState) (text : List ℕ) (result : Result T E) → Writes old new a b text result → WritesPieces (piece_of text shelf ∷ []) old new a b shelf shelf result
  writes_alone shelf text (Ok x) w = record {
    whole = record { appended = subst (Appends old new) (sym (append-nil text)) w.whole; done = refl };
    part = tt;
    cause = record { goes_on = w.cause.goes_on; failed = tt };
  }
  writes_alone shelf text (Err e) w = record {
    whole = tt;
    part = record { before = []; piece = piece_of text shelf; after = []; parts = refl; count = w.part.0; cut = w.part.1; appended = w.part.2; standing = refl };
    cause = record { goes_on = w.cause.goes_on; failed = w.cause.failed };
  }

-- pieces that stopped stop so before others
pub stops_before : {old new : Option (List ℕ)} {left : List ModuleState} (pieces more : List ShelfPiece) → StopsIn pieces old new left → StopsIn (pieces ++ more) old new left
stops_before pieces more s = record {
  before = s.before;
  piece = s.piece;
  after = s.after ++ more;
  parts = ap (λ (ps : List ShelfPiece). ps ++ more) s.parts ∙ append_assoc s.before (s.piece ∷ s.after) more;
  count = s.count;
  cut = s.cut;
  appended = s.appended;
  standing = s.standing;
}

-- pieces with a last line behind them
abbrev pub with_last : List ModuleState → List ShelfPiece → List ℕ → List ShelfPiece
with_last shelf pieces text = pieces ++ piece_of text (left_by shelf pieces) ∷ []

-- pieces whose writing answered `Ok` were written
through : {T E : Type 0} {old new : Option (List ℕ)} {a b : Faults} {shelf left : List ModuleState} {pieces : List ShelfPiece} {first : Result T E} → IsOk first → WritesPieces pieces old new a b shelf left first
    → GoesThrough pieces old new shelf left × GoesOn a b
through {first = Ok x} was one = (one.whole, one.cause.goes_on)
through {first = Err e} was one = absurd cc

module _ {T E : Type 0} {old mid new : Option (List ℕ)} {a b c : Faults} {shelf left : List ModuleState} (pieces : List ShelfPiece) (text : List ℕ) where
  last : GoesThrough pieces old mid shelf left × GoesOn a b → (result : Result T E) → Writes mid new b c text result → WritesPieces (with_last shelf pieces text) old new a c shelf left result
  last one (Ok x) two = record {
    whole = record {
      appended = subst (Appends old new) (sym (text_behind pieces (piece_of text (left_by shelf pieces)))) (Appends-trans _ _ _ _ _ one.0.appended two.whole);
      done = one.0.done ∙ sym (left_behind shelf pieces (piece_of text (left_by shelf pieces)));
    };
    part = tt;
    cause = record { goes_on = GoesOn-trans _ _ _ one.1 two.cause.goes_on; failed = tt };
  }
  last one (Err e) two = record {
    whole = tt;
    part = record {
      before = pieces;
      piece = piece_of text (left_by shelf pieces);
      after = [];
      parts = refl;
      count = two.part.0;
      cut = two.part.1;
      appended = Appends-trans _ _ _ _ _ one.0.appended two.part.2;
      standing = one.0.done;
    };
    cause = record { goes_on = GoesOn-trans _ _ _ one.1 two.cause.goes_on; failed = Rose-before a b c one.1 two.cause.failed };
  }

-- past a `?`, a last line behind the pieces that were written
pub writes_last : {T U E F : Type 0} {old mid new : Option (List ℕ)} {a b c : Faults} {shelf left : List ModuleState} (pieces : List ShelfPiece) (text : List ℕ) {first : Result T E} {flow : _} {value : T}
    → flow ≡ Continue value → first ≡ result_from_control_flow flow → WritesPieces pieces old mid a b shelf left first
    → (result : Result U F) → Writes mid new b c text result → WritesPieces (with_last shelf pieces text) old new a c shelf left result
writes_last pieces text was is one result two = last pieces text (through (cc) one) result two
