-- What two reads give, one after the other.
use Rattle.std.proofs.Common.{Some, None, subst, ◌∙◌, append-nil, ◌≡◌, ℕ, ◌+◌, ◌<◌, ◌≤◌, List, ◌++◌, length, take, Option, length-append, drop, arith, length-take-le, length-drop, drop-drop, take-append-drop, drop_of_length-le, min, ◌-◌, [], sym}
use Rattle.std.proofs.Math.Seq.{take-append_seam}
use Rattle.std.specs.Io.KnownBytes.{Consumes}
use Rattle.std.proofs.KnownBytes.{Consumes-trans}
use Rattle.ssi_base.specs.Streams.{GivesPast, GivesWithin, ReadsToEnd}

-- a read after these bytes that passes the limit
pub gives_past : (old mid new : Option (List ℕ)) (bytes more : List ℕ) (limit : ℕ) → Consumes old mid bytes → Consumes mid new more
    → limit < length bytes + length more → GivesPast old new limit
gives_past old mid new bytes more limit first second past =
    (bytes ++ more, Consumes-trans old mid new bytes more first second, rw length-append past)

-- a read after these bytes that keeps the limit
pub gives_within : (old mid new : Option (List ℕ)) (bytes more : List ℕ) (limit : ℕ) → Consumes old mid bytes → Consumes mid new more
    → length bytes + length more ≤ limit → GivesWithin old new limit
gives_within old mid new bytes more limit first second within =
    (bytes ++ more, Consumes-trans old mid new bytes more first second, rw length-append within)

-- what was read to the end is all that a source had which tells its bytes
pub whole_input : (all bytes : List ℕ) (new : Option (List ℕ)) (limit : ℕ) → ReadsToEnd (Some all) new limit bytes → bytes ≡ all
whole_input all bytes None limit read = absurd read.given
whole_input all bytes (Some rest) limit read = sym (append-nil bytes) ∙ sym (subst (λ left. all ≡ bytes ++ left) read.end read.given)

-- a source which tells its bytes and gave one past the limit had more than the limit
pub long_input : (all : List ℕ) (new : Option (List ℕ)) (limit : ℕ) → GivesPast (Some all) new limit → limit < length all
long_input all None limit past = absurd past.1
long_input all (Some rest) limit past = rw (past.1, length-append) (omega (arith, past.2))

-- a piece copied from the middle of the bytes into the front of a buffer
pub given_next : (left bytes piece rest : List ℕ) (given count : ℕ) → left ≡ drop given bytes → given + count ≤ length bytes → piece ≡ take count (drop given bytes)
    → left ≡ take count (piece ++ rest) ++ drop (given + count) bytes
given_next left bytes piece rest given count were within is =
    let all : length piece ≡ count = rw is (length-take-le count (drop given bytes) (rw length-drop (omega arith))) in
    let front : take count (piece ++ rest) ≡ piece = rw (← all) (take-append_seam piece rest) in
    rw (were, front, is, ← drop-drop count given bytes) (sym (take-append-drop count (drop given bytes)))

-- nothing is left where nothing was given, though there was room
pub at_end : (bytes : List ℕ) (given count room piece : ℕ) → count ≡ min (min room piece) (length bytes - given) → 0 < piece
    → count ≡ 0 → 0 < room → drop (given + count) bytes ≡ []
at_end bytes given count room piece is some none free = drop_of_length-le bytes (omega arith)
