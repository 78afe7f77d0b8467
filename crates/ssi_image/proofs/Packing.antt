-- Rows that are packed one after another, each with its pieces.
use Rattle.std.proofs.Common.{◌≡◌, ℕ, ◌+◌, ◌<◌, List, [], ◌∷◌, ◌++◌, length, map, take, drop, refl, ap, sym, ◌∙◌, append_assoc}
use Rattle.std.specs.Prelude.{get_or, reverse}
use Rattle.std.specs.List.{flat_map}
use Rattle.std.proofs.lemmas.List.{take_more, drop_more, map-append, append-nil, append_cancel_left, reverse-append, reverse-reverse}
use Rattle.std.proofs.lemmas.Grind.{flat_map-append}

-- the row at a place is packed behind those before it
pub row_made : {X Y : Type 0} (f : X → Y) (xs : List X) (i : ℕ) (x : X) (y : Y) (now after : List Y) → i < length xs → x ≡ get_or xs i x → now ≡ map f (take i xs) → y ≡ f x → after ≡ now ++ y ∷ []
    → after ≡ map f (take (i + 1) xs)
row_made f xs i x y now after within is so_far one more =
    more ∙ ap (λ ys. ys ++ y ∷ []) so_far ∙ ap (λ z. map f (take i xs) ++ z ∷ []) (one ∙ ap f is) ∙ sym (map-append f (take i xs) (get_or xs i x ∷ [])) ∙ ap (map f) (sym (take_more xs i x within))

-- the pieces of the rows from a place on are those of the row there, and then those of the rows behind it
pub pieces_next : {X P : Type 0} (f : X → List P) (xs : List X) (i : ℕ) (x : X) (rest : List P) → i < length xs → x ≡ get_or xs i x → flat_map f (drop i xs) ++ rest ≡ f x ++ (flat_map f (drop (i + 1) xs) ++ rest)
pieces_next f xs i x rest within is =
    ap (λ ys. flat_map f ys ++ rest) (drop_more xs i x within) ∙ append_assoc (f (get_or xs i x)) (flat_map f (drop (i + 1) xs)) rest
    ∙ ap (λ z. f z ++ (flat_map f (drop (i + 1) xs) ++ rest)) (sym is)

-- once its pieces are taken, those of the rows up to it are
pub pieces_taken : {X P : Type 0} (f : X → List P) (xs : List X) (i : ℕ) (x : X) (old now after : List P) → i < length xs → x ≡ get_or xs i x → old ≡ flat_map f (take i xs) ++ now → now ≡ f x ++ after
    → old ≡ flat_map f (take (i + 1) xs) ++ after
pieces_taken f xs i x old now after within is so_far one =
    so_far ∙ ap (λ ys. flat_map f (take i xs) ++ ys) one ∙ sym (append_assoc (flat_map f (take i xs)) (f x) after)
    ∙ ap (λ z. (flat_map f (take i xs) ++ f z) ++ after) is ∙ ap (λ z. (flat_map f (take i xs) ++ z) ++ after) (sym (append-nil (f (get_or xs i x))))
    ∙ ap (λ ys. ys ++ after) (sym (flat_map-append f (take i xs) (get_or xs i x ∷ []))) ∙ ap (λ ys. flat_map f ys ++ after) (sym (take_more xs i x within))

-- what is left begins with the pieces of the rows behind it
pub pieces_left : {P : Type 0} (one others now after rest : List P) → now ≡ one ++ (others ++ rest) → now ≡ one ++ after → after ≡ others ++ rest
pieces_left one others now after rest whole taken = append_cancel_left one after (others ++ rest) (sym taken ∙ whole)

-- rows without code have no pieces
pub no_pieces : {X P : Type 0} (f : X → List P) → ((x : X) → f x ≡ []) → (xs : List X) → flat_map f xs ≡ []
no_pieces f none [] = refl
no_pieces f none (x ∷ xs) = ap (λ ys. ys ++ flat_map f xs) (none x) ∙ no_pieces f none xs

-- what is behind the pieces of some rows: those of the rows behind them, and what is left then
pub behind : {X P : Type 0} (f : X → List P) (xs ys : List X) (old now rest : List P) → old ≡ flat_map f xs ++ rest → old ≡ flat_map f ys ++ now → ys ≡ xs → now ≡ rest
behind f xs ys old now rest whole taken same = append_cancel_left (flat_map f xs) now rest (ap (λ zs. flat_map f zs ++ now) (sym same) ∙ sym taken ∙ whole)

-- rows that begin with the pieces of these begin with those of the same rows
pub begins_so : {X P : Type 0} (f : X → List P) (xs ys : List X) (now rest : List P) → now ≡ flat_map f xs ++ rest → ys ≡ xs → (left : List P) × (now ≡ flat_map f ys ++ left)
begins_so f xs ys now rest whole same = (rest, whole ∙ ap (λ zs. flat_map f zs ++ rest) (sym same))

map_reverse : {X Y : Type 0} (f : X → Y) (xs : List X) → map f (reverse xs) ≡ reverse (map f xs)
map_reverse f [] = refl
map_reverse f (x ∷ xs) =
    ap (map f) (reverse-append (x ∷ []) xs) ∙ map-append f (reverse xs) (x ∷ []) ∙ ap (λ ys. ys ++ f x ∷ []) (map_reverse f xs) ∙ sym (reverse-append (f x ∷ []) (map f xs))

-- of a list that was turned round, the last comes first
pub reversed : {X Y : Type 0} (f : X → Y) (xs turned : List X) → turned ≡ reverse xs → reverse (map f turned) ≡ map f xs
reversed f xs turned is = ap (λ ys. reverse (map f ys)) is ∙ ap reverse (map_reverse f xs) ∙ reverse-reverse (map f xs)
