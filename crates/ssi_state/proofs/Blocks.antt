-- Lists in blocks of equal length.
use Rattle.std.proofs.Common.{◌≡◌, ℕ, zero, suc, ◌+◌, ◌-◌, ◌*◌, ◌<◌, ◌≤◌, List, ◌++◌, take, drop, get_or, sym, ap, ap₂, ◌∙◌, arith}
use Rattle.std.specs.Simd.{first_chunks}
use Rattle.std.proofs.Math.Seq.{take-add}
use Rattle.std.proofs.lemmas.List.{drop-drop, get_or-drop, get_or-take}

module _ {X : Type 0} where
  -- a block by its index
  block_at : (n k : ℕ) (xs : List X) (i : ℕ) (d : List X) → i < k → get_or (first_chunks n k xs) i d ≡ take n (drop (i * n) xs)
  block_at n zero xs i d h = absurd (omega arith)
  block_at n (suc k) xs zero d h = let none : 0 ≡ 0 * n = omega arith in ap (λ m. take n (drop m xs)) none
  block_at n (suc k) xs (suc i) d h =
      let more : n + i * n ≡ suc i * n = omega arith in block_at n k (drop n xs) i d (omega arith) ∙ ap (take n) (drop-drop (i * n) n xs) ∙ ap (λ m. take n (drop m xs)) more

  -- two equal fronts, and equal fronts of what follows them
  pub fronts_joined : (xs ys : List X) (m n : ℕ) → take m xs ≡ take m ys → take n (drop m xs) ≡ take n (drop m ys) → take (m + n) xs ≡ take (m + n) ys
  fronts_joined xs ys m n front next = take-add m n xs ∙ ap₂ ◌++◌ front next ∙ sym (take-add m n ys)

  -- the blocks in front of two equal blocks are equal, and so are those up to their end
  pub block_more : (n k : ℕ) (xs ys : List X) (i : ℕ) (block other : List X) → i < k → take (i * n) xs ≡ take (i * n) ys → block ≡ get_or (first_chunks n k xs) i block
      → other ≡ get_or (first_chunks n k ys) i other → block ≡ other → take ((i + 1) * n) xs ≡ take ((i + 1) * n) ys
  block_more n k xs ys i block other h front is other_is same =
      let here : take n (drop (i * n) xs) ≡ take n (drop (i * n) ys) = sym (block_at n k xs i block h) ∙ sym is ∙ same ∙ other_is ∙ block_at n k ys i other h in
      let long : (i + 1) * n ≡ i * n + n = omega arith in
      ap (λ m. take m xs) long ∙ fronts_joined xs ys (i * n) n front here ∙ ap (λ m. take m ys) (sym long)

  -- an item in the equal fronts of two rests
  pub item_in_fronts : (xs ys : List X) (from n i : ℕ) (d : X) → take n (drop from xs) ≡ take n (drop from ys) → from ≤ i → i < from + n → get_or xs i d ≡ get_or ys i d
  item_in_fronts xs ys from n i d same past within =
      let place : i ≡ from + (i - from) = omega arith in
      let inside : i - from < n = omega arith in
      let item : (zs : List X) → get_or zs i d ≡ get_or (take n (drop from zs)) (i - from) d = λ zs. ap (λ j. get_or zs j d) place ∙ sym (get_or-drop from zs (i - from) d) ∙ sym (get_or-take n (drop from zs) (i - from) d inside) in
      item xs ∙ ap (λ zs. get_or zs (i - from) d) same ∙ sym (item ys)
