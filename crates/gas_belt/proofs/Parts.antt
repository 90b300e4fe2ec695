-- The rows in the words of a ring.
use Rattle.std.proofs.Common.{◌≡◌, ℕ, zero, suc, ◌+◌, ◌*◌, ◌≤◌, List, [], ◌∷◌, ◌++◌, length, take, drop, refl, sym, ap, ◌∙◌, arith, add-one, ◌-◌, ◌<◌, subst}
use Rattle.std.proofs.lemmas.Grind.{common_steps}
use mathlib.Core.List.{IsPrefix}
use Rattle.std.proofs.lemmas.List.{append_assoc, append-nil, length-append}
use Rattle.std.proofs.Math.Nat.{mul-div_cancel_left, div-le_of_le-mul}
use Rattle.gas_rows.specs.Row.{RowModel}
use Rattle.gas_belt.specs.Inner.Ring.{rows_of_words}

module _ (read : List ℕ → RowModel) where
  -- more words leave the rows that are there
  pub parts-append : (w n : ℕ) (xs ys : List ℕ) → w * n ≤ length xs → rows_of_words read w n (xs ++ ys) ≡ rows_of_words read w n xs
  unfolding rows_of_words
  parts-append w zero xs ys enough = refl
  parts-append w (suc n) xs ys enough =
      let e : w * n + w ≤ length xs = grind arith in
      let before : w * n ≤ length xs = omega (arith, e) in
      let h = parts-append w n xs ys before in
      let same : take w (drop (w * n) (xs ++ ys)) ≡ take w (drop (w * n) xs) = grind (arith, common_steps) in
      ap (λ (rs : List RowModel). rs ++ read (take w (drop (w * n) (xs ++ ys))) ∷ []) h
      ∙ ap (λ (r : List ℕ). rows_of_words read w n xs ++ read r ∷ []) same

  pub parts-next : (w n : ℕ) (xs : List ℕ) → rows_of_words read w (n + 1) xs ≡ rows_of_words read w n xs ++ read (take w (drop (w * n) xs)) ∷ []
  unfolding rows_of_words
  parts-next w n xs = rw add-one refl

  -- one more row
  pub parts_row : (w n : ℕ) (xs row : List ℕ) → length xs ≡ w * n → length row ≡ w →
      rows_of_words read w (n + 1) (xs ++ row) ≡ rows_of_words read w n xs ++ read row ∷ []
  parts_row w n xs row at long =
      let enough : w * n ≤ length xs = omega (arith, at) in
      let same : take w (drop (w * n) (xs ++ row)) ≡ row = grind (arith, common_steps) in
      parts-next w n (xs ++ row)
      ∙ ap (λ (rs : List RowModel). rs ++ read (take w (drop (w * n) (xs ++ row))) ∷ []) (parts-append w n xs row enough)
      ∙ ap (λ (r : List ℕ). rows_of_words read w n xs ++ read r ∷ []) same

  pub parts_length : (w n : ℕ) (xs : List ℕ) → length (rows_of_words read w n xs) ≡ n
  unfolding rows_of_words
  parts_length w zero xs = refl
  parts_length w (suc n) xs = let h = parts_length w n xs in grind (arith, common_steps)

  pub parts_none : (w : ℕ) (xs : List ℕ) → rows_of_words read w 0 xs ≡ []
  unfolding rows_of_words
  parts_none w xs = refl

  -- fewer rows of the same words come first
  pub parts-prefix : (w m k : ℕ) (xs : List ℕ) → IsPrefix (rows_of_words read w m xs) (rows_of_words read w (m + k) xs)
  parts-prefix w m zero xs =
      let none : m ≡ m + 0 = omega arith in
      ([], append-nil (rows_of_words read w m xs) ∙ ap (λ (j : ℕ). rows_of_words read w j xs) none)
  parts-prefix w m (suc k) xs =
      let h = parts-prefix w m k xs in
      let row = read (take w (drop (w * (m + k)) xs)) in
      let at : m + k + 1 ≡ m + suc k = omega arith in
      let seam : rows_of_words read w m xs ++ (h.0 ++ row ∷ []) ≡ (rows_of_words read w m xs ++ h.0) ++ row ∷ [] =
      sym (append_assoc (rows_of_words read w m xs) h.0 (row ∷ [])) in (
        h.0 ++ row ∷ [],
        seam ∙ ap (λ (rs : List RowModel). rs ++ row ∷ []) h.1 ∙ sym (parts-next w (m + k) xs) ∙ ap (λ (j : ℕ). rows_of_words read w j xs) at,
      )

  -- what was read comes first in what was written
  pub parts-read : (w m n : ℕ) (xs ys zs : List ℕ) → 0 < w → length xs ≡ w * m → xs ++ ys ≡ zs → length zs ≡ w * n →
      IsPrefix (rows_of_words read w m xs) (rows_of_words read w n zs)
  parts-read w m n xs ys zs some at all long =
      let sum : length xs + length ys ≡ length zs = sym (length-append xs ys) ∙ ap (λ (l : List ℕ). length l) all in
      let below : w * m ≤ w * n = omega (arith, at, sum, long) in
      let fewer : m ≤ n = subst (λ (k : ℕ). k ≤ n) (mul-div_cancel_left m some) (div-le_of_le-mul w below) in
      let enough : w * m ≤ length xs = omega (arith, at) in
      let same : rows_of_words read w m xs ≡ rows_of_words read w m zs = sym (parts-append w m xs ys enough) ∙ ap (λ (l : List ℕ). rows_of_words read w m l) all in
      let rest : m + (n - m) ≡ n = omega (arith, fewer) in
      let h = parts-prefix w m (n - m) zs in
      (h.0, ap (λ (rs : List RowModel). rs ++ h.0) same ∙ h.1 ∙ ap (λ (k : ℕ). rows_of_words read w k zs) rest)
