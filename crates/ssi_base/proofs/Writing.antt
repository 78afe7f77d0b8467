-- What is written in several pieces, one after the other, is their join.
use Rattle.std.proofs.Common.{◌≡◌, ℕ, ◌+◌, ◌≤◌, List, ◌++◌, length, take, drop, Option, Continue, Break, IsOk, IsErr, Result, Ok, Err, length-append, arith}
use Rattle.std.proofs.Math.Seq.{take-add, take-append-add}
use Rattle.std.proofs.lemmas.List.{take-append-le}
use Rattle.std.specs.Io.KnownBytes.{Appends}
use Rattle.std.proofs.KnownBytes.{Appends-trans}
use Rattle.ssi_base.specs.Faults.{Faults, Rose, GoesOn}
use Rattle.std.specs.Result.{result_from_control_flow}
use Rattle.ssi_base.specs.Streams.{AppendsPart, Written, Writes}

-- after the front of the bytes, the front of what is left of them
pub Appends-next : (old mid new : Option (List ℕ)) (bytes rest : List ℕ) (done n : ℕ) → rest ≡ drop done bytes
    → Appends old mid (take done bytes) → Appends mid new (take n rest) → Appends old new (take (done + n) bytes)
Appends-next old mid new bytes rest done n is first second =
    rw (take-add, ← is) (Appends-trans old mid new (take done bytes) (take n rest) first second)

-- the count goes on over two calls
pub GoesOn-trans : (a b c : Faults) → GoesOn a b → GoesOn b c → GoesOn a c
GoesOn-trans a b c first second = grind arith

-- a rise is one from before earlier calls
pub Rose-before : (a b c : Faults) → GoesOn a b → Rose b c → Rose a c
Rose-before a b c first second = omega arith

-- a part of the front is a part of the join
pub part_of_front : (old new : Option (List ℕ)) (front rest : List ℕ) → AppendsPart old new front → AppendsPart old new (front ++ rest)
part_of_front old new front rest part =
    let within : part.0 ≤ length front = omega (arith, part.1) in
    (part.0, rw length-append (omega (arith, part.1)), rw take-append-le part.2)

-- the front and a part of the rest are a part of the join
pub part_after_front : (old mid new : Option (List ℕ)) (front rest : List ℕ) → Appends old mid front → AppendsPart mid new rest → AppendsPart old new (front ++ rest)
part_after_front old mid new front rest first part =
    (length front + part.0, rw length-append (omega (arith, part.1)), rw take-append-add (Appends-trans old mid new front (take part.0 rest) first part.2))

-- a piece whose writing answered `Ok` was written
pub Written-ok : {T E : Type 0} {old new : Option (List ℕ)} {a b : Faults} {bytes : List ℕ} {result : Result T E}
    → IsOk result → Writes old new a b bytes result → Written old new a b bytes
Written-ok {result = Ok x} was one = record { appended = one.whole; goes_on = one.cause.goes_on }
Written-ok {result = Err e} was one = absurd (cc)

-- two pieces that were written are their join
pub Written-then : {old mid new : Option (List ℕ)} {a b c : Faults} {front rest : List ℕ}
    → Written mid new b c rest → Written old mid a b front → Written old new a c (front ++ rest)
Written-then two one = record {
  appended = Appends-trans _ _ _ _ _ one.appended two.appended;
  goes_on = GoesOn-trans _ _ _ one.goes_on two.goes_on;
}

-- what was written whole answers `Ok`
pub Writes-done : {T E : Type 0} {old new : Option (List ℕ)} {a b : Faults} {bytes : List ℕ} {done : T}
    → Written old new a b bytes → Writes {T = T} {E = E} old new a b bytes (Ok done)
Writes-done all = record { whole = all.appended; part = tt; cause = record { goes_on = all.goes_on; failed = tt } }

-- a last piece after what was written: the join is written as this piece is
pub Writes-last : {T E : Type 0} {old mid new : Option (List ℕ)} {a b c : Faults} {front rest : List ℕ} {result : Result T E}
    → Writes mid new b c rest result → Written old mid a b front → Writes old new a c (front ++ rest) result
Writes-last {result = Ok x} two one = record {
  whole = Appends-trans _ _ _ _ _ one.appended two.whole;
  part = tt;
  cause = record { goes_on = GoesOn-trans _ _ _ one.goes_on two.cause.goes_on; failed = tt };
}
Writes-last {a = a} {b = b} {c = c} {result = Err e} two one = record {
  whole = tt;
  part = part_after_front _ _ _ _ _ one.appended two.part;
  cause = record { goes_on = GoesOn-trans _ _ _ one.goes_on two.cause.goes_on; failed = Rose-before a b c one.goes_on two.cause.failed };
}

-- what failed leaves a part of each join that begins with it
pub Writes-short : {T E : Type 0} {old new : Option (List ℕ)} {a b : Faults} {front : List ℕ} (rest : List ℕ) {result : Result T E}
    → IsErr result → Writes old new a b front result → Writes old new a b (front ++ rest) result
Writes-short rest {result = Ok x} failed one = absurd (cc)
Writes-short rest {result = Err e} failed one = record {
  whole = tt;
  part = part_of_front _ _ _ rest one.part;
  cause = record { goes_on = one.cause.goes_on; failed = one.cause.failed };
}

-- a failure that is passed on as another error
pub Writes-failed : {T U E F : Type 0} {old new : Option (List ℕ)} {a b : Faults} {bytes : List ℕ} {first : Result T E} {second : Result U F}
    → IsErr first → IsErr second → Writes old new a b bytes first → Writes old new a b bytes second
Writes-failed {first = Ok x} was failed one = absurd (cc)
Writes-failed {first = Err e} {second = Ok x} was failed one = absurd (cc)
Writes-failed {first = Err e} {second = Err d} was failed one = record {
  whole = tt;
  part = one.part;
  cause = record { goes_on = one.cause.goes_on; failed = one.cause.failed };
}

-- past a `?`, the piece was written
pub Written-past : {T E : Type 0} {old new : Option (List ℕ)} {a b : Faults} {bytes : List ℕ} {result : Result T E} {flow : _} {value : T}
    → flow ≡ Continue value → result ≡ result_from_control_flow flow → Writes old new a b bytes result → Written old new a b bytes
Written-past was is one = Written-ok (cc) one

-- past the `?` of a further piece, the join was written
pub Written-more : {T E : Type 0} {old mid new : Option (List ℕ)} {a b c : Faults} {front rest : List ℕ} {result : Result T E} {flow : _} {value : T}
    → flow ≡ Continue value → result ≡ result_from_control_flow flow → Writes mid new b c rest result → Written old mid a b front → Written old new a c (front ++ rest)
Written-more was is two one = Written-then (Written-past was is two) one

-- at the exit of a `?`, the piece failed
pub Writes-exit : {T U E F : Type 0} {old new : Option (List ℕ)} {a b : Faults} {bytes : List ℕ} {first : Result T E} {second : Result U F} {flow : _} {error : _}
    → flow ≡ Break error → first ≡ result_from_control_flow flow → IsErr second → Writes old new a b bytes first → Writes old new a b bytes second
Writes-exit was is failed one = Writes-failed (cc) failed one

-- what a function that writes piece after piece needs
pub ruleset joins = (Written-past, Written-more, Writes-done, Writes-last, Writes-short, Writes-exit)
