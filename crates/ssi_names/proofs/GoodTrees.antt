-- Trees of conditions and bodies by what is measured of their rows, and lists of them.
use Rattle.std.proofs.Common.{◌≡◌, ℕ, ◌+◌, ◌*◌, ◌≤◌, Bool, true, List, [], ◌∷◌, ◌++◌, length, map, refl, arith}
use Rattle.std.specs.Cmp.Derive.{both_true}
use Rattle.std.specs.List.{concat, list_all}
use Rattle.std.proofs.Math.Nat.{max-le}
use Rattle.std.proofs.lemmas.List.{length-append}
use Rattle.ssi_identities.specs.Allowed.{greatest}
use Rattle.ssi_identities.specs.Codes.{with_length}
use Rattle.ssi_lexer.specs.Languages.{ListedBy, last, and_more, SeveralBy, several}
use Rattle.ssi_lexer.specs.Lexemes.{Lexeme}
use Rattle.ssi_names.specs.declared.fault.Fault.{Fault}
use Rattle.ssi_names.specs.Occurrences.{one_by_one}
use Rattle.ssi_names.proofs.Fine.{no_front, no_back}

-- what is measured of a tree: its faults; whether its row names only what its place allows, and has no list that is too short; how deep its row goes; and its row's code
pub record Measures (X : Type 0) : Type 0 where
  pub faults : X → List Fault
  pub within : X → Bool
  pub depth : X → ℕ
  pub code : X → List ℕ

-- a tree without faults is within its place, goes so deep at most, and has five bytes of code for each of its tokens at most
pub record IsGood (X : Type 0) (m : Measures X) (most : ℕ) (x : X) (tokens : List Lexeme) : Type 0 where
  pub within : m.faults x ≡ [] → m.within x ≡ true
  pub depth : m.depth x ≤ most
  pub short : length (m.code x) ≤ 5 * length tokens

-- the same of all trees of a list, with and without the length of each piece of code
pub record AreGood (X : Type 0) (m : Measures X) (most : ℕ) (xs : List X) (tokens : List Lexeme) : Type 0 where
  pub some : 1 ≤ length xs
  pub within : one_by_one (map m.faults xs) ≡ [] → list_all (λ within. within) (map m.within xs) ≡ true
  pub depth : greatest (map m.depth xs) ≤ most
  pub short : length (concat (map m.code xs)) ≤ 5 * length tokens
  pub pieces : length (concat (map with_length (map m.code xs))) ≤ 5 * length tokens + 4

-- trees that are listed are good where each is
pub listed_good : (X : Type 0) (m : Measures X) (most : ℕ) (mark : Lexeme → Bool) (S : X → List Lexeme → Type 0) → ((x : X) (tokens : List Lexeme) → S x tokens → IsGood X m most x tokens)
    → (xs : List X) (tokens : List Lexeme) → ListedBy mark X S xs tokens → AreGood X m most xs tokens
listed_good X m most mark S each xs tokens (last x u spells) =
    let one = each x u spells in
    record {
      some = omega arith;
      within = λ none. both_true (one.within (no_front (m.faults x) [] none)) refl;
      depth = max-le one.depth (omega arith);
      short = omega (arith, one.short, length-append (m.code x) []);
      pieces = omega (arith, one.short, length-append (with_length (m.code x)) []);
    }
listed_good X m most mark S each xs tokens (and_more x ys t u v spells between rest) =
    let one = each x u spells in
    let others = listed_good X m most mark S each ys v rest in
    let long = length-append u (t ∷ v) in
    record {
      some = omega arith;
      within = λ none.
          both_true (one.within (no_front (m.faults x) (one_by_one (map m.faults ys)) none))
          (others.within (no_back (m.faults x) (one_by_one (map m.faults ys)) none));
      depth = max-le one.depth others.depth;
      short = omega (arith, one.short, others.short, long, length-append (m.code x) (concat (map m.code ys)));
      pieces = omega (arith, one.short, others.pieces, long, length-append (with_length (m.code x)) (concat (map with_length (map m.code ys))));
    }

-- so are several; of these there are two at least
pub several_good : (X : Type 0) (m : Measures X) (most : ℕ) (mark : Lexeme → Bool) (S : X → List Lexeme → Type 0) → ((x : X) (tokens : List Lexeme) → S x tokens → IsGood X m most x tokens)
    → (xs : List X) (tokens : List Lexeme) → SeveralBy mark X S xs tokens → AreGood X m most xs tokens × (2 ≤ length xs)
several_good X m most mark S each xs tokens (several x ys t u v spells between rest) =
    let others = listed_good X m most mark S each ys v rest in
    (listed_good X m most mark S each (x ∷ ys) (u ++ (t ∷ v)) (and_more x ys t u v spells between rest), omega (arith, others.some))
