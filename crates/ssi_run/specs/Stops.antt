-- How far the pieces of an answer were written, and what stands then.
use Rattle.std.specs.Prelude.{◌≡◌, ℕ, ◌<◌, List, [], ◌∷◌, ◌++◌, length, take, Option, Result, OnErr, OnOk}
use Rattle.std.specs.Io.KnownBytes.{Appends}
use Rattle.ssi_base.specs.Faults.{Faults, HasCause}
use Rattle.ssi_script.specs.Traces.{Piece, text_of}

-- what stands where all pieces are written: as the last one has it, or as it stood before
abbrev pub left_by : {S : Type 0} → S → List (Piece S) → S
left_by start [] = start
left_by start (piece ∷ pieces) = left_by piece.standing pieces

-- The pieces before one of them were written, and of this one a front that isn't the whole. What stands is what stood when it is written.
pub record StopsIn {S : Type 0} (pieces : List (Piece S)) (old new : Option (List ℕ)) (left : S) : Type 0 where
  pub before : List (Piece S)
  pub piece : Piece S
  pub after : List (Piece S)
  pub parts : pieces ≡ before ++ piece ∷ after
  pub count : ℕ
  pub cut : count < length piece.text
  pub appended : Appends old new (text_of before ++ take count piece.text)
  pub standing : left ≡ piece.standing

-- the whole of the pieces was written, and what stands is as the last one leaves it
pub record GoesThrough {S : Type 0} (pieces : List (Piece S)) (old new : Option (List ℕ)) (start left : S) : Type 0 where
  pub appended : Appends old new (text_of pieces)
  pub done : left ≡ left_by start pieces

-- These pieces were to be written: the whole was on `Ok`, and after an error, which has a cause, they stop in one of them.
pub record WritesPieces {S T E : Type 0} (pieces : List (Piece S)) (old new : Option (List ℕ)) (before now : Faults) (start left : S) (result : Result T E) : Type 0 where
  pub whole : OnOk result (GoesThrough pieces old new start left)
  pub part : OnErr result (StopsIn pieces old new left)
  pub cause : HasCause before now result
