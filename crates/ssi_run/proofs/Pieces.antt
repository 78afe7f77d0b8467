-- Pieces that are written one after another, and what is left of them.
use Rattle.std.proofs.Common.{◌≡◌, ℕ, List, [], ◌∷◌, ◌++◌, Option, Result, Ok, Err, IsOk, IsErr, Continue, Break, refl, ap, sym, ◌∙◌, append_assoc, arith}
use Rattle.std.specs.Io.KnownBytes.{Appends}
use Rattle.std.specs.Result.{result_from_control_flow}
use Rattle.std.proofs.KnownBytes.{Appends-nil, Appends-trans}
use Rattle.std.proofs.lemmas.List.{append-nil}
use Rattle.ssi_base.specs.Faults.{Faults, GoesOn}
use Rattle.ssi_base.specs.Streams.{Writes}
use Rattle.ssi_base.proofs.Writing.{GoesOn-trans, Rose-before}
use Rattle.ssi_trackside.specs.Module.{ModuleState}
use Rattle.ssi_script.specs.Traces.{ShelfPiece, text_of}
use Rattle.ssi_run.specs.Stops.{left_by, StopsIn, GoesThrough, WritesPieces}

-- ---- pieces, one after another

pub text-append : (front back : List ShelfPiece) → text_of (front ++ back) ≡ text_of front ++ text_of back
text-append [] back = refl
text-append (piece ∷ front) back = ap (λ text. piece.text ++ text) (text-append front back) ∙ sym (append_assoc piece.text (text_of front) (text_of back))

-- the last of all leaves the modules
pub left-append : (shelf : List ModuleState) (front back : List ShelfPiece) → left_by shelf (front ++ back) ≡ left_by (left_by shelf front) back
left-append shelf [] back = refl
left-append shelf (piece ∷ front) back = left-append piece.standing front back

-- pieces that were written whole
pub record Passed (pieces : List ShelfPiece) (old now : Option (List ℕ)) (before after : Faults) (shelf left : List ModuleState) : Type 0 where
  pub through : GoesThrough pieces old now shelf left
  pub goes_on : GoesOn before after

pub passed_none : (old : Option (List ℕ)) (faults : Faults) (shelf : List ModuleState) → Passed [] old old faults faults shelf shelf
passed_none old faults shelf = record {
  through = record { appended = Appends-nil old; done = refl };
  goes_on = record { later = omega arith; most = refl };
}

-- after pieces that were written, others are
pub passed_on : {old mid new : Option (List ℕ)} {a b c : Faults} {shelf between left : List ModuleState} (front back : List ShelfPiece)
    → Passed front old mid a b shelf between → Passed back mid new b c between left → Passed (front ++ back) old new a c shelf left
passed_on {shelf = shelf} front back one two = record {
  through = record {
    appended = rw text-append (Appends-trans _ _ _ _ _ one.through.appended two.through.appended);
    done = two.through.done ∙ ap (λ states. left_by states back) one.through.done ∙ sym (left-append shelf front back);
  };
  goes_on = GoesOn-trans _ _ _ one.goes_on two.goes_on;
}

-- ---- what a call wrote

pub passed_ok : {T E : Type 0} {pieces : List ShelfPiece} {old new : Option (List ℕ)} {a b : Faults} {shelf left : List ModuleState} {result : Result T E}
    → IsOk result → WritesPieces pieces old new a b shelf left result → Passed pieces old new a b shelf left
passed_ok {result = Ok x} was one = record { through = one.whole; goes_on = one.cause.goes_on }
passed_ok {result = Err e} was one = absurd (cc)

-- past a `?`, the pieces were written
pub passed_past : {T E : Type 0} {pieces : List ShelfPiece} {old new : Option (List ℕ)} {a b : Faults} {shelf left : List ModuleState} {result : Result T E} {flow : _} {value : T}
    → flow ≡ Continue value → result ≡ result_from_control_flow flow → WritesPieces pieces old new a b shelf left result → Passed pieces old new a b shelf left
passed_past was is one = passed_ok (cc) one

-- past the `?` of a further call, the join was written
pub passed_more : {T E : Type 0} {front back : List ShelfPiece} {old mid new : Option (List ℕ)} {a b c : Faults} {shelf between left : List ModuleState} {result : Result T E} {flow : _} {value : T}
    → flow ≡ Continue value → result ≡ result_from_control_flow flow → WritesPieces back mid new b c between left result → Passed front old mid a b shelf between
    → Passed (front ++ back) old new a c shelf left
passed_more {front = front} {back = back} was is two one = passed_on front back one (passed_past was is two)

-- what was written whole answers `Ok`
pub pieces_done : {T E : Type 0} {pieces : List ShelfPiece} {old new : Option (List ℕ)} {a b : Faults} {shelf left : List ModuleState} {value : T}
    → Passed pieces old new a b shelf left → WritesPieces {T = T} {E = E} pieces old new a b shelf left (Ok value)
pieces_done all = record { whole = all.through; part = tt; cause = record { goes_on = all.goes_on; failed = tt } }

-- a stop in pieces is one in all that have them in their midst
pub stops_amid : {old mid new : Option (List ℕ)} {left : List ModuleState} (front pieces back : List ShelfPiece) → Appends old mid (text_of front)
    → StopsIn pieces mid new left → StopsIn (front ++ pieces ++ back) old new left
stops_amid front pieces back first stop = record {
  before = front ++ stop.before;
  piece = stop.piece;
  after = stop.after ++ back;
  parts = ap (λ (pieces : List ShelfPiece). front ++ pieces ++ back) stop.parts ∙ append_assoc front _ back
      ∙ ap (λ (rest : List ShelfPiece). front ++ rest) (append_assoc stop.before (stop.piece ∷ stop.after) back) ∙ sym (append_assoc front stop.before _);
  count = stop.count;
  cut = stop.cut;
  appended = rw (text-append, append_assoc) (Appends-trans _ _ _ _ _ first stop.appended);
  standing = stop.standing;
}

-- a failure in pieces that stand before others, after those that were written
pub pieces_stopped : {T U E F : Type 0} {old mid new : Option (List ℕ)} {a b c : Faults} {shelf between left : List ModuleState} {first : Result T E} {second : Result U F}
    (front pieces back : List ShelfPiece) → Passed front old mid a b shelf between → IsErr first → IsErr second → WritesPieces pieces mid new b c between left first
    → WritesPieces (front ++ pieces ++ back) old new a c shelf left second
pieces_stopped {first = Ok x} front pieces back passed failed told one = absurd (cc)
pieces_stopped {first = Err e} {second = Ok x} front pieces back passed failed told one = absurd (cc)
pieces_stopped {a = a} {b = b} {c = c} {first = Err e} {second = Err d} front pieces back passed failed told one = record {
  whole = tt;
  part = stops_amid front pieces back passed.through.appended one.part;
  cause = record { goes_on = GoesOn-trans _ _ _ passed.goes_on one.cause.goes_on; failed = Rose-before a b c passed.goes_on one.cause.failed };
}

-- a last call after what was written: the join is written as this one is
pub pieces_last : {T E : Type 0} {front back : List ShelfPiece} {old mid new : Option (List ℕ)} {a b c : Faults} {shelf between left : List ModuleState} {result : Result T E}
    → WritesPieces back mid new b c between left result → Passed front old mid a b shelf between → WritesPieces (front ++ back) old new a c shelf left result
pieces_last {front = front} {back = back} {result = Ok x} two one = pieces_done (passed_on front back one (record { through = two.whole; goes_on = two.cause.goes_on }))
pieces_last {T = T} {E = E} {front = front} {back = back} {result = Err e} two one =
    let stopped = pieces_stopped {U = T} {F = E} {first = Err e} {second = Err e} front back [] one refl refl two in
    rw append-nil at stopped

-- what failed leaves a part of all that begins with it
pub pieces_short : {T E : Type 0} {front : List ShelfPiece} {old new : Option (List ℕ)} {a b : Faults} {shelf left : List ModuleState} (back : List ShelfPiece) {result : Result T E}
    → IsErr result → WritesPieces front old new a b shelf left result → WritesPieces (front ++ back) old new a b shelf left result
pieces_short {front = front} {old = old} {a = a} {shelf = shelf} back failed one = pieces_stopped [] front back (passed_none old a shelf) failed failed one

-- at the exit of a `?`, the call failed
pub pieces_exit : {T U E F : Type 0} {pieces : List ShelfPiece} {old new : Option (List ℕ)} {a b : Faults} {shelf left : List ModuleState} {first : Result T E} {second : Result U F} {flow : _} {error : _}
    → flow ≡ Break error → first ≡ result_from_control_flow flow → IsErr second → WritesPieces pieces old new a b shelf left first → WritesPieces pieces old new a b shelf left second
pieces_exit {pieces = pieces} {old = old} {a = a} {shelf = shelf} was is told one =
    let stopped = pieces_stopped [] pieces [] (passed_none old a shelf) (cc) told one in
    rw append-nil at stopped

-- another name of the text
pub written_as : {T E : Type 0} {old new : Option (List ℕ)} {a b : Faults} {bytes text : List ℕ} {result : Result T E}
    → bytes ≡ text → Writes old new a b bytes result → Writes old new a b text result
written_as is one = rw (← is) one

-- one piece is written as its text is, when the modules stand as it has them
pub one_written : {T E : Type 0} {old new : Option (List ℕ)} {a b : Faults} {text : List ℕ} {result : Result T E} (shelf left : List ModuleState)
    → Writes old new a b text result → WritesPieces (record { text = text; standing = left } ∷ []) old new a b shelf left result
one_written {result = Ok x} shelf left one = record {
  whole = record { appended = rw append-nil one.whole; done = refl };
  part = tt;
  cause = record { goes_on = one.cause.goes_on; failed = tt };
}
one_written {text = text} {result = Err e} shelf left one = record {
  whole = tt;
  part = record { before = []; piece = record { text = text; standing = left }; after = []; parts = refl; count = one.part.0; cut = one.part.1; appended = one.part.2; standing = refl };
  cause = record { goes_on = one.cause.goes_on; failed = one.cause.failed };
}

-- ---- what is left of some pieces

-- they were written up to the rest
pub record PiecesLeft (old now : Option (List ℕ)) (before after : Faults) (shelf left : List ModuleState) (whole rest : List ShelfPiece) : Type 0 where
  pub done : List ShelfPiece
  pub passed : Passed done old now before after shelf left
  pub parts : whole ≡ done ++ rest

pub all_pieces_left : (old : Option (List ℕ)) (faults : Faults) (shelf : List ModuleState) (whole : List ShelfPiece) → PiecesLeft old old faults faults shelf shelf whole whole
all_pieces_left old faults shelf whole = record { done = []; passed = passed_none old faults shelf; parts = refl }

-- some more were written
pub fewer_pieces_left : {old mid new : Option (List ℕ)} {a b c : Faults} {shelf between left : List ModuleState} {whole pieces rest : List ShelfPiece}
    → PiecesLeft old mid a b shelf between whole (pieces ++ rest) → Passed pieces mid new b c between left → PiecesLeft old new a c shelf left whole rest
fewer_pieces_left {pieces = pieces} {rest = rest} ahead one = record {
  done = ahead.done ++ pieces;
  passed = passed_on ahead.done pieces ahead.passed one;
  parts = ahead.parts ∙ sym (append_assoc ahead.done pieces rest);
}

-- the next ones failed
pub pieces_stop : {T U E F : Type 0} {old mid new : Option (List ℕ)} {a b c : Faults} {shelf between left : List ModuleState} {whole pieces : List ShelfPiece} (rest : List ShelfPiece)
    {first : Result T E} {second : Result U F} → PiecesLeft old mid a b shelf between whole (pieces ++ rest) → IsErr first → IsErr second
    → WritesPieces pieces mid new b c between left first → WritesPieces whole old new a c shelf left second
pieces_stop {pieces = pieces} rest ahead failed told one =
    rw (ahead.parts, ← append_assoc) (pieces_stopped ahead.done pieces rest ahead.passed failed told one)

-- a step that writes nothing leaves the modules as its piece has them
pub one_silent : {T E : Type 0} (old : Option (List ℕ)) (faults : Faults) (shelf left : List ModuleState) (value : T)
    → WritesPieces {T = T} {E = E} (record { text = []; standing = left } ∷ []) old old faults faults shelf left (Ok value)
one_silent old faults shelf left value = record {
  whole = record { appended = Appends-nil old; done = refl };
  part = tt;
  cause = record { goes_on = record { later = omega arith; most = refl }; failed = tt };
}

-- what a function that writes pieces by one call after another needs
pub ruleset piece_joins = (passed_past, passed_more, pieces_done, pieces_last, pieces_short, pieces_exit, one_written, one_silent)
