-- A text that is written piece by piece, and what is left of it.
use Rattle.std.proofs.Common.{◌≡◌, ℕ, List, [], ◌++◌, Option, Result, Ok, IsErr, refl, sym, ◌∙◌, append_assoc, arith}
use Rattle.std.proofs.lemmas.List.{append-nil}
use Rattle.std.proofs.KnownBytes.{Appends-nil}
use Rattle.ssi_base.specs.Faults.{Faults}
use Rattle.ssi_base.specs.Streams.{Written, Writes}
use Rattle.ssi_base.proofs.Writing.{Written-then, Writes-done, Writes-last, Writes-failed, Writes-short}

-- the whole was written, up to the rest
pub record IsLeft (old now : Option (List ℕ)) (a b : Faults) (whole rest : List ℕ) : Type 0 where
  pub done : List ℕ
  pub written : Written old now a b done
  pub parts : whole ≡ done ++ rest

pub all_left : (old : Option (List ℕ)) (a : Faults) (whole : List ℕ) → IsLeft old old a a whole whole
all_left old a whole = record { done = []; written = record { appended = Appends-nil old; goes_on = record { later = omega arith; most = refl } }; parts = refl }

pub less_left : {old mid new : Option (List ℕ)} {a b c : Faults} {whole piece rest : List ℕ} → IsLeft old mid a b whole (piece ++ rest)
    → Written mid new b c piece → IsLeft old new a c whole rest
less_left left one = record { done = left.done ++ _; written = Written-then one left.written; parts = left.parts ∙ sym (append_assoc left.done _ _) }

pub none_left : {T E : Type 0} {old now : Option (List ℕ)} {a b : Faults} {whole : List ℕ} {value : T} → IsLeft old now a b whole []
    → Writes {T = T} {E = E} old now a b whole (Ok value)
none_left left = rw (left.parts, append-nil) (Writes-done left.written)

pub stopped : {T U E F : Type 0} {old mid new : Option (List ℕ)} {a b c : Faults} {whole piece : List ℕ} (rest : List ℕ) {first : Result T E} {second : Result U F}
    → IsLeft old mid a b whole (piece ++ rest) → IsErr first → IsErr second → Writes mid new b c piece first → Writes old new a c whole second
stopped rest left failed told one = rw left.parts (Writes-failed failed told (Writes-last (Writes-short rest failed one) left.written))
