-- One code is that of one condition, and of one body, where both name what there is and their lengths are told by four bytes. No clause cites this file: that
-- an image shows one data set rests on it.
use Rattle.std.specs.Prelude.{◌≡◌, ℕ, zero, suc, ◌+◌, ◌/◌, ◌%◌, ◌<◌, ◌≤◌, ◌^◌, nat_lt, nat_le, if◌then◌else◌, Bool, true, false, ◌&&◌, List, [], ◌∷◌, ◌++◌, length, map, Option, Some, None, option_map, refl}
use Rattle.std.specs.Int.{w16, w32, to_be_bytes}
use Rattle.std.specs.List.{concat, list_all}
use Rattle.std.proofs.Common.{sym, ap, subst, ◌∙◌, append_assoc, length-append, arith}
use Rattle.std.proofs.lemmas.Bool.Decides.{nat_tests}
use Rattle.ssi_identities.specs.declared.rule.CondItem.{CondItem}
use Rattle.ssi_identities.specs.declared.rule.CondItem.TheVariants.{Lit, Bit, Free, Any}
use Rattle.ssi_identities.specs.declared.rule.Cond.{Cond}
use Rattle.ssi_identities.specs.declared.rule.Cmd.{Cmd}
use Rattle.ssi_identities.specs.declared.rule.BodyItem.{BodyItem}
use Rattle.ssi_identities.specs.declared.rule.BodyItem.TheVariants.{Do, If}
use Rattle.ssi_identities.specs.declared.rule.Body.{Body}
use Rattle.ssi_identities.specs.Allowed.{CondScope, BodyScope, item_within, cond_within, is_item_within, is_within, part_within, body_within, is_part_within, is_body_within, else_within}
use Rattle.ssi_identities.specs.Codes.{IsShort, with_length, item_code, cond_code, code_of_item, code_of_items, code_of_cond, code_of_alternatives, code_of_command, else_code, part_code, body_code, code_of_part, code_of_parts, code_of_body}
use Rattle.ssi_identities.proofs.Conditions.{lit_is, bit_is, free_is, any_is, cond_is, cond_item_cases}
use Rattle.ssi_identities.proofs.Bodies.{do_is, if_is, body_is, body_item_cases}

-- two bytes number the facts and the points that a condition may name
pub record IsNumbered (scope : CondScope) : Type 0 where
  pub facts : scope.facts ≤ 65536
  pub points : (points : ℕ) (lie : Bool) → scope.may_ask points lie ≡ true → points < 65536

-- two bytes number what a body may name
pub record IsNumberedBody (scope : BodyScope) : Type 0 where
  pub guards : IsNumbered scope.guards
  pub commands : (fact : ℕ) → scope.may_command fact ≡ true → fact < 65536

-- ---- pieces

append_same : (a b x y : List ℕ) → length a ≡ length b → a ++ x ≡ b ++ y → (a ≡ b) × (x ≡ y)
append_same [] [] x y l e = (refl, e)
append_same [] (n ∷ b) x y l e = absurd (omega arith)
append_same (m ∷ a) [] x y l e = absurd (omega arith)
append_same (m ∷ a) (n ∷ b) x y l e =
    let tails : a ++ x ≡ b ++ y = cc in
    let heads : m ≡ n = cc in
    let h = append_same a b x y (omega arith) tails in
    (ap (λ k. k ∷ a) heads ∙ ap (λ ys. n ∷ ys) h.0, h.1)

two_same : (m n : ℕ) (x y : List ℕ) → m < 65536 → n < 65536 → to_be_bytes w16 m ++ x ≡ to_be_bytes w16 n ++ y → (m ≡ n) × (x ≡ y)
two_same m n x y mb nb e =
    let high : m / 256 % 256 ≡ n / 256 % 256 = cc in
    let low : m % 256 ≡ n % 256 = cc in
    (omega arith, cc)

four_same : (m n : ℕ) (x y : List ℕ) → m < 2 ^ 32 → n < 2 ^ 32 → to_be_bytes w32 m ++ x ≡ to_be_bytes w32 n ++ y → (m ≡ n) × (x ≡ y)
four_same m n x y mb nb e =
    let a : m / 16777216 % 256 ≡ n / 16777216 % 256 = cc in
    let b : m / 65536 % 256 ≡ n / 65536 % 256 = cc in
    let c : m / 256 % 256 ≡ n / 256 % 256 = cc in
    let d : m % 256 ≡ n % 256 = cc in
    (omega arith, cc)

piece_same : (a b x y : List ℕ) → IsShort a → IsShort b → with_length a ++ x ≡ with_length b ++ y → (a ≡ b) × (x ≡ y)
piece_same a b x y sa sb e =
    let h = four_same (length a) (length b) (a ++ x) (b ++ y) sa sb (sym (append_assoc (to_be_bytes w32 (length a)) a x) ∙ e ∙ append_assoc (to_be_bytes w32 (length b)) b y) in
    append_same a b x y h.0 h.1

and_first : (a b : Bool) → (a && b) ≡ true → a ≡ true
and_first true b e = refl
and_first false b e = absurd cc

and_second : (a b : Bool) → (a && b) ≡ true → b ≡ true
and_second true b e = e
and_second false b e = absurd cc

-- ---- conditions

abbrev items_within : CondScope → List CondItem → Bool
items_within scope items = list_all (λ within. within) (map (is_item_within scope) items)

abbrev conds_within : CondScope → List Cond → Bool
conds_within scope conds = list_all (λ within. within) (map (is_within scope) conds)

-- a first byte tells which kind of item stands there, and its truth value
record IsCoded (i : CondItem) (byte : ℕ) (operand : List ℕ) : Type 0 where
  is : code_of_item i ≡ byte ∷ operand

abbrev pick : Bool → ℕ → ℕ → ℕ
pick value first second = if value then first else second

lit_coded : (fact : ℕ) (wanted : Bool) → IsCoded (Lit fact wanted) (pick wanted 0x11 0x10) (to_be_bytes w16 fact)
lit_coded fact wanted = record { is = lit_is (List ℕ) (List ℕ) item_code cond_code fact wanted }

bit_coded : (bit : ℕ) (wanted : Bool) → IsCoded (Bit bit wanted) (pick wanted 0x13 0x12) (bit ∷ [])
bit_coded bit wanted = record { is = bit_is (List ℕ) (List ℕ) item_code cond_code bit wanted }

free_coded : (points : ℕ) (reverse : Bool) → IsCoded (Free points reverse) (pick reverse 0x15 0x14) (to_be_bytes w16 points)
free_coded points reverse = record { is = free_is (List ℕ) (List ℕ) item_code cond_code points reverse }

any_coded : (conds : List Cond) → IsCoded (Any conds) 0x16 (with_length (code_of_alternatives conds))
any_coded conds = record { is = any_is (List ℕ) (List ℕ) item_code cond_code conds }

same_head : (i j : CondItem) (b d : ℕ) (s t x y : List ℕ) → IsCoded i b s → IsCoded j d t → code_of_item i ++ x ≡ code_of_item j ++ y → (b ≡ d) × (s ++ x ≡ t ++ y)
same_head i j b d s t x y p q e =
    let both : b ∷ (s ++ x) ≡ d ∷ (t ++ y) = ap (λ c. c ++ x) (sym p.is) ∙ e ∙ ap (λ c. c ++ y) q.is in
    (cc, cc)

-- bytes of two kinds of items differ, and those of one kind tell the truth value
same_value : (v w : Bool) (a b : ℕ) → (a ≡ b → ⊥) → pick v a b ≡ pick w a b → v ≡ w
same_value true true a b d e = refl
same_value false false a b d e = refl
same_value true false a b d e = absurd (d e)
same_value false true a b d e = absurd (d (sym e))

apart : (v w : Bool) (a b c d : ℕ) → (a ≡ c → ⊥) → (a ≡ d → ⊥) → (b ≡ c → ⊥) → (b ≡ d → ⊥) → pick v a b ≡ pick w c d → ⊥
apart true true a b c d p q r s e = p e
apart true false a b c d p q r s e = q e
apart false true a b c d p q r s e = r e
apart false false a b c d p q r s e = s e

module _ (s t : CondScope) (ns : IsNumbered s) (nt : IsNumbered t) where
  -- lists of alternatives no longer than so are one where their code is
  abbrev GroupsSame : ℕ → Type 0
  GroupsSame n = (cs ds : List Cond) → conds_within s cs ≡ true → conds_within t ds ≡ true → length (code_of_alternatives cs) ≤ n → IsShort (code_of_alternatives cs) → code_of_alternatives cs ≡ code_of_alternatives ds → cs ≡ ds

  abbrev ItemsSame : ℕ → Type 0
  ItemsSame n = (xs ys : List CondItem) → items_within s xs ≡ true → items_within t ys ≡ true → length (code_of_items xs) ≤ n → IsShort (code_of_items xs) → code_of_items xs ≡ code_of_items ys → xs ≡ ys

  abbrev Same : CondItem → CondItem → List ℕ → List ℕ → Type 0
  Same i j x y = (i ≡ j) × (x ≡ y)

  lit_same : (fact : ℕ) (wanted : Bool) (j : CondItem) (x y : List ℕ) → is_item_within s (Lit fact wanted) ≡ true → is_item_within t j ≡ true → code_of_item (Lit fact wanted) ++ x ≡ code_of_item j ++ y → Same (Lit fact wanted) j x y
  lit_same fact wanted j x y ws = cond_item_cases (λ j. is_item_within t j ≡ true → code_of_item (Lit fact wanted) ++ x ≡ code_of_item j ++ y → Same (Lit fact wanted) j x y)
      (λ f w wt e.
      let h = same_head (Lit fact wanted) (Lit f w) _ _ _ _ x y (lit_coded fact wanted) (lit_coded f w) e in
      let sf = sym (lit_is Bool Bool (item_within s) cond_within fact wanted) ∙ ws in
      let tf = sym (lit_is Bool Bool (item_within t) cond_within f w) ∙ wt in
      let fs = ns.facts in
      let ft = nt.facts in
      let k = two_same fact f x y (grind (arith, nat_tests)) (grind (arith, nat_tests)) h.1 in
      (ap (λ m. Lit m wanted) k.0 ∙ ap (Lit f) (same_value wanted w 0x11 0x10 (λ z. absurd (omega arith)) h.0), k.1))
      (λ b w wt e. absurd (apart wanted w 0x11 0x10 0x13 0x12 (λ z. absurd (omega arith)) (λ z. absurd (omega arith)) (λ z. absurd (omega arith)) (λ z. absurd (omega arith)) (same_head (Lit fact wanted) (Bit b w) _ _ _ _ x y (lit_coded fact wanted) (bit_coded b w) e).0))
      (λ p w wt e. absurd (apart wanted w 0x11 0x10 0x15 0x14 (λ z. absurd (omega arith)) (λ z. absurd (omega arith)) (λ z. absurd (omega arith)) (λ z. absurd (omega arith)) (same_head (Lit fact wanted) (Free p w) _ _ _ _ x y (lit_coded fact wanted) (free_coded p w) e).0))
      (λ cs wt e. absurd (apart wanted true 0x11 0x10 0x16 0x16 (λ z. absurd (omega arith)) (λ z. absurd (omega arith)) (λ z. absurd (omega arith)) (λ z. absurd (omega arith)) (same_head (Lit fact wanted) (Any cs) _ _ _ _ x y (lit_coded fact wanted) (any_coded cs) e).0))
      j

  bit_same : (bit : ℕ) (wanted : Bool) (j : CondItem) (x y : List ℕ) → code_of_item (Bit bit wanted) ++ x ≡ code_of_item j ++ y → Same (Bit bit wanted) j x y
  bit_same bit wanted j x y = cond_item_cases (λ j. code_of_item (Bit bit wanted) ++ x ≡ code_of_item j ++ y → Same (Bit bit wanted) j x y)
      (λ f w e. absurd (apart wanted w 0x13 0x12 0x11 0x10 (λ z. absurd (omega arith)) (λ z. absurd (omega arith)) (λ z. absurd (omega arith)) (λ z. absurd (omega arith)) (same_head (Bit bit wanted) (Lit f w) _ _ _ _ x y (bit_coded bit wanted) (lit_coded f w) e).0))
      (λ b w e.
      let h = same_head (Bit bit wanted) (Bit b w) _ _ _ _ x y (bit_coded bit wanted) (bit_coded b w) e in
      let tails = h.1 in
      let k : bit ≡ b = cc in
      (ap (λ m. Bit m wanted) k ∙ ap (Bit b) (same_value wanted w 0x13 0x12 (λ z. absurd (omega arith)) h.0), cc))
      (λ p w e. absurd (apart wanted w 0x13 0x12 0x15 0x14 (λ z. absurd (omega arith)) (λ z. absurd (omega arith)) (λ z. absurd (omega arith)) (λ z. absurd (omega arith)) (same_head (Bit bit wanted) (Free p w) _ _ _ _ x y (bit_coded bit wanted) (free_coded p w) e).0))
      (λ cs e. absurd (apart wanted true 0x13 0x12 0x16 0x16 (λ z. absurd (omega arith)) (λ z. absurd (omega arith)) (λ z. absurd (omega arith)) (λ z. absurd (omega arith)) (same_head (Bit bit wanted) (Any cs) _ _ _ _ x y (bit_coded bit wanted) (any_coded cs) e).0))
      j

  free_same : (points : ℕ) (lie : Bool) (j : CondItem) (x y : List ℕ) → is_item_within s (Free points lie) ≡ true → is_item_within t j ≡ true → code_of_item (Free points lie) ++ x ≡ code_of_item j ++ y → Same (Free points lie) j x y
  free_same points lie j x y ws = cond_item_cases (λ j. is_item_within t j ≡ true → code_of_item (Free points lie) ++ x ≡ code_of_item j ++ y → Same (Free points lie) j x y)
      (λ f w wt e. absurd (apart lie w 0x15 0x14 0x11 0x10 (λ z. absurd (omega arith)) (λ z. absurd (omega arith)) (λ z. absurd (omega arith)) (λ z. absurd (omega arith)) (same_head (Free points lie) (Lit f w) _ _ _ _ x y (free_coded points lie) (lit_coded f w) e).0))
      (λ b w wt e. absurd (apart lie w 0x15 0x14 0x13 0x12 (λ z. absurd (omega arith)) (λ z. absurd (omega arith)) (λ z. absurd (omega arith)) (λ z. absurd (omega arith)) (same_head (Free points lie) (Bit b w) _ _ _ _ x y (free_coded points lie) (bit_coded b w) e).0))
      (λ p w wt e.
      let h = same_head (Free points lie) (Free p w) _ _ _ _ x y (free_coded points lie) (free_coded p w) e in
      let sp = ns.points points lie (sym (free_is Bool Bool (item_within s) cond_within points lie) ∙ ws) in
      let tp = nt.points p w (sym (free_is Bool Bool (item_within t) cond_within p w) ∙ wt) in
      let k = two_same points p x y sp tp h.1 in
      (ap (λ m. Free m lie) k.0 ∙ ap (Free p) (same_value lie w 0x15 0x14 (λ z. absurd (omega arith)) h.0), k.1))
      (λ cs wt e. absurd (apart lie true 0x15 0x14 0x16 0x16 (λ z. absurd (omega arith)) (λ z. absurd (omega arith)) (λ z. absurd (omega arith)) (λ z. absurd (omega arith)) (same_head (Free points lie) (Any cs) _ _ _ _ x y (free_coded points lie) (any_coded cs) e).0))
      j

  any_same : (n : ℕ) → GroupsSame n → (conds : List Cond) (j : CondItem) (x y : List ℕ) → is_item_within s (Any conds) ≡ true → is_item_within t j ≡ true → length (code_of_item (Any conds)) ≤ suc n
      → IsShort (code_of_item (Any conds)) → IsShort (code_of_item j) → code_of_item (Any conds) ++ x ≡ code_of_item j ++ y → Same (Any conds) j x y
  any_same n groups conds j x y ws wt long short = cond_item_cases (λ j. is_item_within t j ≡ true → IsShort (code_of_item j) → code_of_item (Any conds) ++ x ≡ code_of_item j ++ y → Same (Any conds) j x y)
      (λ f w wt sj e. absurd (apart true w 0x16 0x16 0x11 0x10 (λ z. absurd (omega arith)) (λ z. absurd (omega arith)) (λ z. absurd (omega arith)) (λ z. absurd (omega arith)) (same_head (Any conds) (Lit f w) _ _ _ _ x y (any_coded conds) (lit_coded f w) e).0))
      (λ b w wt sj e. absurd (apart true w 0x16 0x16 0x13 0x12 (λ z. absurd (omega arith)) (λ z. absurd (omega arith)) (λ z. absurd (omega arith)) (λ z. absurd (omega arith)) (same_head (Any conds) (Bit b w) _ _ _ _ x y (any_coded conds) (bit_coded b w) e).0))
      (λ p w wt sj e. absurd (apart true w 0x16 0x16 0x15 0x14 (λ z. absurd (omega arith)) (λ z. absurd (omega arith)) (λ z. absurd (omega arith)) (λ z. absurd (omega arith)) (same_head (Any conds) (Free p w) _ _ _ _ x y (any_coded conds) (free_coded p w) e).0))
      (λ cs wt sj e.
      let h = same_head (Any conds) (Any cs) _ _ _ _ x y (any_coded conds) (any_coded cs) e in
      let mine = ap length (any_coded conds).is in
      let other = ap length (any_coded cs).is in
      let short_mine : IsShort (code_of_alternatives conds) = omega arith in
      let short_other : IsShort (code_of_alternatives cs) = omega arith in
      let k = piece_same (code_of_alternatives conds) (code_of_alternatives cs) x y short_mine short_other h.1 in
      let inside = and_second (nat_le 2 (length (map (is_within s) conds))) (conds_within s conds) (sym (any_is Bool Bool (item_within s) cond_within conds) ∙ ws) in
      let other_inside = and_second (nat_le 2 (length (map (is_within t) cs))) (conds_within t cs) (sym (any_is Bool Bool (item_within t) cond_within cs) ∙ wt) in
      (ap Any (groups conds cs inside other_inside (omega arith) short_mine k.0), k.1))
      j wt

  item_same : (n : ℕ) → GroupsSame n → (i j : CondItem) (x y : List ℕ) → is_item_within s i ≡ true → is_item_within t j ≡ true → length (code_of_item i) ≤ suc n → IsShort (code_of_item i) → IsShort (code_of_item j)
      → code_of_item i ++ x ≡ code_of_item j ++ y → Same i j x y
  item_same n groups i j x y = cond_item_cases (λ i. is_item_within s i ≡ true → is_item_within t j ≡ true → length (code_of_item i) ≤ suc n → IsShort (code_of_item i) → IsShort (code_of_item j)
      → code_of_item i ++ x ≡ code_of_item j ++ y → Same i j x y)
      (λ fact wanted ws wt long si sj e. lit_same fact wanted j x y ws wt e)
      (λ bit wanted ws wt long si sj e. bit_same bit wanted j x y e)
      (λ points lie ws wt long si sj e. free_same points lie j x y ws wt e)
      (λ conds ws wt long si sj e. any_same n groups conds j x y ws wt long si sj e)
      i

item_is_long : (i : CondItem) → 0 < length (code_of_item i)
item_is_long = cond_item_cases (λ i. 0 < length (code_of_item i)) (λ f w. omega (arith, ap length (lit_coded f w).is)) (λ b w. omega (arith, ap length (bit_coded b w).is)) (λ p w. omega (arith, ap length (free_coded p w).is)) (λ cs. omega (arith, ap length (any_coded cs).is))

cond_as_items : (c : Cond) → code_of_cond c ≡ code_of_items c.items
cond_as_items c = cond_is (List ℕ) (List ℕ) item_code cond_code c.items

within_as_items : (scope : CondScope) (c : Cond) → is_within scope c ≡ true → items_within scope c.items ≡ true
within_as_items scope c w = and_second (nat_le 1 (length (map (is_item_within scope) c.items))) (items_within scope c.items) (sym (cond_is Bool Bool (item_within scope) cond_within c.items) ∙ w)

cond_by_items : (c d : Cond) → c.items ≡ d.items → c ≡ d
cond_by_items c d e = ap (λ (is : List CondItem). let cond : Cond = record { items = is } in cond) e

module _ (s t : CondScope) (ns : IsNumbered s) (nt : IsNumbered t) where
  nothing_left : (ys : List CondItem) → [] ≡ code_of_items ys → [] ≡ ys
  nothing_left [] e = refl
  nothing_left (y ∷ ys) e = absurd (omega (arith, ap length e, item_is_long y, length-append (code_of_item y) (code_of_items ys)))

  no_group_left : (ds : List Cond) → [] ≡ code_of_alternatives ds → [] ≡ ds
  no_group_left [] e = refl
  no_group_left (d ∷ ds) e = absurd (omega (arith, ap length e, length-append (with_length (code_of_cond d)) (code_of_alternatives ds)))

  items_from : (n : ℕ) → GroupsSame s t ns nt n → ItemsSame s t ns nt n → ItemsSame s t ns nt (suc n)
  items_from n groups items [] ys ws wt l short e = nothing_left ys e
  items_from n groups items (x ∷ xs) [] ws wt l short e = absurd (omega (arith, ap length e, item_is_long x, length-append (code_of_item x) (code_of_items xs)))
  items_from n groups items (x ∷ xs) (y ∷ ys) ws wt l short e =
      let long = length-append (code_of_item x) (code_of_items xs) in
      let other = length-append (code_of_item y) (code_of_items ys) in
      let same_long = ap length e in
      let some = item_is_long x in
      let h = item_same s t ns nt n groups x y (code_of_items xs) (code_of_items ys) (and_first (is_item_within s x) (items_within s xs) ws) (and_first (is_item_within t y) (items_within t ys) wt) (omega arith) (omega arith) (omega arith) e in
      let rest = items xs ys (and_second (is_item_within s x) (items_within s xs) ws) (and_second (is_item_within t y) (items_within t ys) wt) (omega arith) (omega arith) h.1 in
      ap (λ i. i ∷ xs) h.0 ∙ ap (λ is. y ∷ is) rest

  groups_from : (n : ℕ) → GroupsSame s t ns nt n → ItemsSame s t ns nt n → GroupsSame s t ns nt (suc n)
  groups_from n groups items [] ds ws wt l short e = no_group_left ds e
  groups_from n groups items (c ∷ cs) [] ws wt l short e = absurd (omega (arith, ap length e, length-append (with_length (code_of_cond c)) (code_of_alternatives cs)))
  groups_from n groups items (c ∷ cs) (d ∷ ds) ws wt l short e =
      let long = length-append (with_length (code_of_cond c)) (code_of_alternatives cs) in
      let other = length-append (with_length (code_of_cond d)) (code_of_alternatives ds) in
      let same_long = ap length e in
      let mine = ap length (cond_as_items c) in
      let h = piece_same (code_of_cond c) (code_of_cond d) (code_of_alternatives cs) (code_of_alternatives ds) (omega arith) (omega arith) e in
      let wc = within_as_items s c (and_first (is_within s c) (conds_within s cs) ws) in
      let wd = within_as_items t d (and_first (is_within t d) (conds_within t ds) wt) in
      let i : c.items ≡ d.items = items c.items d.items wc wd (omega arith) (omega arith) (sym (cond_as_items c) ∙ h.0 ∙ cond_as_items d) in
      let rest = groups cs ds (and_second (is_within s c) (conds_within s cs) ws) (and_second (is_within t d) (conds_within t ds) wt) (omega arith) (omega arith) h.1 in
      ap (λ k. k ∷ cs) (cond_by_items c d i) ∙ ap (λ ks. d ∷ ks) rest

  items_none : ItemsSame s t ns nt 0
  items_none [] ys ws wt l short e = nothing_left ys e
  items_none (x ∷ xs) ys ws wt l short e = absurd (omega (arith, item_is_long x, length-append (code_of_item x) (code_of_items xs)))

  groups_none : GroupsSame s t ns nt 0
  groups_none [] ds ws wt l short e = no_group_left ds e
  groups_none (c ∷ cs) ds ws wt l short e = absurd (omega (arith, length-append (with_length (code_of_cond c)) (code_of_alternatives cs)))

  both_same : (n : ℕ) → ItemsSame s t ns nt n × GroupsSame s t ns nt n
  both_same zero = (items_none, groups_none)
  both_same (suc n) = let below = both_same n in (items_from n below.1 below.0, groups_from n below.1 below.0)

  -- one code is that of one condition
  pub one_cond : (c d : Cond) → is_within s c ≡ true → is_within t d ≡ true → IsShort (code_of_cond c) → code_of_cond c ≡ code_of_cond d → c ≡ d
  one_cond c d ws wt short e =
      let mine = ap length (cond_as_items c) in
      cond_by_items c d ((both_same (length (code_of_items c.items))).0 c.items d.items (within_as_items s c ws) (within_as_items t d wt) (omega arith) (omega arith) (sym (cond_as_items c) ∙ e ∙ cond_as_items d))

-- ---- bodies

abbrev parts_within : BodyScope → List BodyItem → Bool
parts_within scope items = list_all (λ within. within) (map (is_part_within scope) items)

record IsPartCoded (i : BodyItem) (byte : ℕ) (operand : List ℕ) : Type 0 where
  is : code_of_part i ≡ byte ∷ operand

do_coded : (command : Cmd) → IsPartCoded (Do command) (pick command.value 0x21 0x20) (to_be_bytes w16 command.fact)
do_coded command = record { is = do_is (List ℕ) (List ℕ) part_code body_code command }

abbrev choice_code : Cond → Body → Option Body → List ℕ
choice_code guard b other = with_length (code_of_cond guard) ++ (with_length (code_of_body b) ++ else_code (option_map code_of_body other))

if_coded : (guard : Cond) (b : Body) (other : Option Body) → IsPartCoded (If guard b other) 0x22 (with_length (choice_code guard b other))
if_coded guard b other = record { is = if_is (List ℕ) (List ℕ) part_code body_code guard b other }

same_part_head : (i j : BodyItem) (b d : ℕ) (s t x y : List ℕ) → IsPartCoded i b s → IsPartCoded j d t → code_of_part i ++ x ≡ code_of_part j ++ y → (b ≡ d) × (s ++ x ≡ t ++ y)
same_part_head i j b d s t x y p q e =
    let both : b ∷ (s ++ x) ≡ d ∷ (t ++ y) = ap (λ c. c ++ x) (sym p.is) ∙ e ∙ ap (λ c. c ++ y) q.is in
    (cc, cc)

body_as_parts : (b : Body) → code_of_body b ≡ code_of_parts b.items
body_as_parts b = body_is (List ℕ) (List ℕ) part_code body_code b.items

part_is_long : (i : BodyItem) → 0 < length (code_of_part i)
part_is_long = body_item_cases (λ i. 0 < length (code_of_part i)) (λ command. omega (arith, ap length (do_coded command).is)) (λ guard b other. omega (arith, ap length (if_coded guard b other).is))

body_within_parts : (scope : BodyScope) (b : Body) → is_body_within scope b ≡ true → parts_within scope b.items ≡ true
body_within_parts scope b w = and_second (nat_le 1 (length (map (is_part_within scope) b.items))) (parts_within scope b.items) (sym (body_is Bool Bool (part_within scope) body_within b.items) ∙ w)

body_by_items : (a b : Body) → a.items ≡ b.items → a ≡ b
body_by_items a b e = ap (λ (is : List BodyItem). let body : Body = record { items = is } in body) e

no_part_left : (ys : List BodyItem) → [] ≡ code_of_parts ys → [] ≡ ys
no_part_left [] e = refl
no_part_left (y ∷ ys) e = absurd (omega (arith, ap length e, part_is_long y, length-append (code_of_part y) (code_of_parts ys)))

-- what a choice says of its guard and its branches
record IfWithin (scope : BodyScope) (guard : Cond) (b : Body) (other : Option Body) : Type 0 where
  guard_in : is_within scope.guards guard ≡ true
  body_in : is_body_within scope b ≡ true
  other_in : else_within (option_map (is_body_within scope) other) ≡ true

if_within : (scope : BodyScope) (guard : Cond) (b : Body) (other : Option Body) → is_part_within scope (If guard b other) ≡ true → IfWithin scope guard b other
if_within scope guard b other w =
    let all = sym (if_is Bool Bool (part_within scope) body_within guard b other) ∙ w in
    let behind = and_second _ _ all in
    let branches = and_second _ _ behind in
    record { guard_in = and_first _ _ all; body_in = and_first _ _ branches; other_in = and_second _ _ branches }

module _ (s t : BodyScope) (ns : IsNumberedBody s) (nt : IsNumberedBody t) where
  -- bodies whose code is no longer than so are one where it is
  abbrev BodiesSame : ℕ → Type 0
  BodiesSame n = (a b : Body) → is_body_within s a ≡ true → is_body_within t b ≡ true → length (code_of_body a) ≤ n → IsShort (code_of_body a) → code_of_body a ≡ code_of_body b → a ≡ b

  other_same : (n : ℕ) → BodiesSame n → (a b : Option Body) → else_within (option_map (is_body_within s) a) ≡ true → else_within (option_map (is_body_within t) b) ≡ true → length (else_code (option_map code_of_body a)) ≤ n
      → IsShort (else_code (option_map code_of_body a)) → else_code (option_map code_of_body a) ≡ else_code (option_map code_of_body b) → a ≡ b
  other_same n same None None ws wt l short e = refl
  other_same n same None (Some b) ws wt l short e = absurd (omega (arith, ap length e))
  other_same n same (Some a) None ws wt l short e = absurd (omega (arith, ap length e))
  other_same n same (Some a) (Some b) ws wt l short e =
      let same_long = ap length e in
      ap Some (same a b ws wt (omega arith) (omega arith) (piece_same (code_of_body a) (code_of_body b) [] [] (omega arith) (omega arith) (ap (λ c. c ++ []) e)).0)

  do_same : (command : Cmd) (j : BodyItem) (x y : List ℕ) → is_part_within s (Do command) ≡ true → is_part_within t j ≡ true → code_of_part (Do command) ++ x ≡ code_of_part j ++ y → (Do command ≡ j) × (x ≡ y)
  do_same command j x y ws = body_item_cases (λ j. is_part_within t j ≡ true → code_of_part (Do command) ++ x ≡ code_of_part j ++ y → (Do command ≡ j) × (x ≡ y))
      (λ d wt e.
      let h = same_part_head (Do command) (Do d) _ _ _ _ x y (do_coded command) (do_coded d) e in
      let fs = ns.commands command.fact (sym (do_is Bool Bool (part_within s) body_within command) ∙ ws) in
      let ft = nt.commands d.fact (sym (do_is Bool Bool (part_within t) body_within d) ∙ wt) in
      let k = two_same command.fact d.fact x y fs ft h.1 in
      let v : command.value ≡ d.value = same_value command.value d.value 0x21 0x20 (λ z. absurd (omega arith)) h.0 in
      let same_command : command ≡ d = ap (λ (m : ℕ). let c : Cmd = record { fact = m; value = command.value } in c) k.0 ∙ ap (λ (w : Bool). let c : Cmd = record { fact = d.fact; value = w } in c) v in
      (ap Do same_command, k.1))
      (λ g b o wt e. absurd (apart command.value true 0x21 0x20 0x22 0x22 (λ z. absurd (omega arith)) (λ z. absurd (omega arith)) (λ z. absurd (omega arith)) (λ z. absurd (omega arith)) (same_part_head (Do command) (If g b o) _ _ _ _ x y (do_coded command) (if_coded g b o) e).0))
      j

  if_same : (n : ℕ) → BodiesSame n → (guard : Cond) (b : Body) (other : Option Body) (j : BodyItem) (x y : List ℕ) → is_part_within s (If guard b other) ≡ true → is_part_within t j ≡ true
      → length (code_of_part (If guard b other)) ≤ suc n → IsShort (code_of_part (If guard b other)) → IsShort (code_of_part j) → code_of_part (If guard b other) ++ x ≡ code_of_part j ++ y → (If guard b other ≡ j) × (x ≡ y)
  if_same n same guard b other j x y ws wt l short = body_item_cases (λ j. is_part_within t j ≡ true → IsShort (code_of_part j) → code_of_part (If guard b other) ++ x ≡ code_of_part j ++ y → (If guard b other ≡ j) × (x ≡ y))
      (λ d wt sj e. absurd (apart true d.value 0x22 0x22 0x21 0x20 (λ z. absurd (omega arith)) (λ z. absurd (omega arith)) (λ z. absurd (omega arith)) (λ z. absurd (omega arith)) (same_part_head (If guard b other) (Do d) _ _ _ _ x y (if_coded guard b other) (do_coded d) e).0))
      (λ g c o wt sj e.
      let h = same_part_head (If guard b other) (If g c o) _ _ _ _ x y (if_coded guard b other) (if_coded g c o) e in
      let mine = ap length (if_coded guard b other).is in
      let theirs = ap length (if_coded g c o).is in
      let one = length-append (with_length (code_of_cond guard)) (with_length (code_of_body b) ++ else_code (option_map code_of_body other)) in
      let two = length-append (with_length (code_of_body b)) (else_code (option_map code_of_body other)) in
      let one_t = length-append (with_length (code_of_cond g)) (with_length (code_of_body c) ++ else_code (option_map code_of_body o)) in
      let two_t = length-append (with_length (code_of_body c)) (else_code (option_map code_of_body o)) in
      let is = if_within s guard b other ws in
      let it = if_within t g c o wt in
      let k = piece_same (choice_code guard b other) (choice_code g c o) x y (omega arith) (omega arith) h.1 in
      let first = piece_same (code_of_cond guard) (code_of_cond g) _ _ (omega arith) (omega arith) k.0 in
      let second = piece_same (code_of_body b) (code_of_body c) _ _ (omega arith) (omega arith) first.1 in
      let guards = one_cond s.guards t.guards ns.guards nt.guards guard g is.guard_in it.guard_in (omega arith) first.0 in
      let bodies = same b c is.body_in it.body_in (omega arith) (omega arith) second.0 in
      let others = other_same n same other o is.other_in it.other_in (omega arith) (omega arith) second.1 in
      (ap (λ q. If q b other) guards ∙ ap (λ q. If g q other) bodies ∙ ap (λ q. If g c q) others, k.1))
      j wt

  part_same : (n : ℕ) → BodiesSame n → (i j : BodyItem) (x y : List ℕ) → is_part_within s i ≡ true → is_part_within t j ≡ true → length (code_of_part i) ≤ suc n → IsShort (code_of_part i) → IsShort (code_of_part j)
      → code_of_part i ++ x ≡ code_of_part j ++ y → (i ≡ j) × (x ≡ y)
  part_same n same i j x y = body_item_cases (λ i. is_part_within s i ≡ true → is_part_within t j ≡ true → length (code_of_part i) ≤ suc n → IsShort (code_of_part i) → IsShort (code_of_part j)
      → code_of_part i ++ x ≡ code_of_part j ++ y → (i ≡ j) × (x ≡ y))
      (λ command ws wt l si sj e. do_same command j x y ws wt e)
      (λ guard b other ws wt l si sj e. if_same n same guard b other j x y ws wt l si sj e)
      i

  parts_same : (n : ℕ) → BodiesSame n → (xs ys : List BodyItem) → parts_within s xs ≡ true → parts_within t ys ≡ true → length (code_of_parts xs) ≤ suc n → IsShort (code_of_parts xs) → code_of_parts xs ≡ code_of_parts ys → xs ≡ ys
  parts_same n same [] ys ws wt l short e = no_part_left ys e
  parts_same n same (x ∷ xs) [] ws wt l short e = absurd (omega (arith, ap length e, part_is_long x, length-append (code_of_part x) (code_of_parts xs)))
  parts_same n same (x ∷ xs) (y ∷ ys) ws wt l short e =
      let long = length-append (code_of_part x) (code_of_parts xs) in
      let other = length-append (code_of_part y) (code_of_parts ys) in
      let same_long = ap length e in
      let h = part_same n same x y (code_of_parts xs) (code_of_parts ys) (and_first (is_part_within s x) (parts_within s xs) ws) (and_first (is_part_within t y) (parts_within t ys) wt) (omega arith) (omega arith) (omega arith) e in
      ap (λ i. i ∷ xs) h.0 ∙ ap (λ is. y ∷ is) (parts_same n same xs ys (and_second (is_part_within s x) (parts_within s xs) ws) (and_second (is_part_within t y) (parts_within t ys) wt) (omega arith) (omega arith) h.1)

  bodies_none : BodiesSame 0
  bodies_none a b ws wt l short e =
      let mine = ap length (body_as_parts a) in
      let theirs = ap length (body_as_parts b) in
      let same_long = ap length e in
      body_by_items a b (none a.items b.items (omega arith) (omega arith))
    where
      none : (xs ys : List BodyItem) → length (code_of_parts xs) ≤ 0 → length (code_of_parts ys) ≤ 0 → xs ≡ ys
      none [] [] l k = refl
      none [] (y ∷ ys) l k = absurd (omega (arith, part_is_long y, length-append (code_of_part y) (code_of_parts ys)))
      none (x ∷ xs) ys l k = absurd (omega (arith, part_is_long x, length-append (code_of_part x) (code_of_parts xs)))

  bodies_same : (n : ℕ) → BodiesSame n
  bodies_same zero a b ws wt l short e = bodies_none a b ws wt l short e
  bodies_same (suc n) a b ws wt l short e =
      let mine = ap length (body_as_parts a) in
      body_by_items a b (parts_same n (bodies_same n) a.items b.items (body_within_parts s a ws) (body_within_parts t b wt) (omega arith) (omega arith) (sym (body_as_parts a) ∙ e ∙ body_as_parts b))

  -- one code is that of one body
  pub one_body : (a b : Body) → is_body_within s a ≡ true → is_body_within t b ≡ true → IsShort (code_of_body a) → code_of_body a ≡ code_of_body b → a ≡ b
  one_body a b ws wt short e = bodies_same (length (code_of_body a)) a b ws wt (omega arith) short e
