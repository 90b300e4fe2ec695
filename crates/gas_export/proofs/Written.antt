-- Rows that are written one after another.
use Rattle.std.proofs.Common.{◌≡◌, ◌≢◌, ◌⊎◌, ℕ, ◌+◌, ◌-◌, ◌*◌, ◌<◌, ◌≤◌, List, length, get_or, take, drop, inl, inr, ap, ap₂, sym, subst, ◌∙◌, arith}
use Rattle.std.proofs.lemmas.Bool.{cases_lt, cases_eq}
use Rattle.std.proofs.lemmas.List.{places, ext_get_or}
use Rattle.std.proofs.lemmas.Nat.{mul-le}
use borrow.Rule.Slice.PartMut.{put_mid}
use Rattle.gas_export.specs.Planes.{row_words}

pub row-within : (w h y : ℕ) → y < h → y * w + w ≤ h * w
row-within w h y lt = omega (arith, mul-le (y + 1) w h w (omega (arith, lt)) (omega arith))

pub row-get : {A : Type 0} (d : A) (m rows k j : ℕ) (xs : List A) → length xs ≡ rows * m → k < rows → j < m → get_or (row_words m xs k) j d ≡ get_or xs (k * m + j) d
row-get d m rows k j xs long in_rows lt =
    let within : k * m + m ≤ length xs = omega (arith, row-within m rows k in_rows, long) in
    grind (arith, places)

pub row-long : {A : Type 0} (m rows k : ℕ) (xs : List A) → length xs ≡ rows * m → k < rows → length (row_words m xs k) ≡ m
row-long m rows k xs long in_rows =
    let within : k * m + m ≤ length xs = omega (arith, row-within m rows k in_rows, long) in
    grind (arith, places)

-- a part of a list that is written
pub put-long : {A : Type 0} (a m : ℕ) (xs ys : List A) → length ys ≡ m → a + m ≤ length xs → length (put_mid a m xs ys) ≡ length xs
put-long a m xs ys wide within = grind (arith, places)

pub put-get : {A : Type 0} (d : A) (a m j : ℕ) (xs ys : List A) → length ys ≡ m → a + m ≤ length xs → j < m → get_or (put_mid a m xs ys) (a + j) d ≡ get_or ys j d
put-get d a m j xs ys wide within lt = grind (arith, places)

pub put-apart : {A : Type 0} (d : A) (a m j : ℕ) (xs ys : List A) → length ys ≡ m → a + m ≤ length xs → (j < a) ⊎ (a + m ≤ j) → get_or (put_mid a m xs ys) j d ≡ get_or xs j d
put-apart d a m j xs ys wide within apart = grind (arith, places)

-- row y of rows of m is written
pub record IsPut {A : Type 0} (m rows y : ℕ) (old row new : List A) : Type 0 where
  pub here : row_words m new y ≡ row
  pub others : (k : ℕ) → k < rows → k ≢ y → row_words m new k ≡ row_words m old k

-- as code writes it, which may have another name for m
pub row-put : {A : Type 0} (d : A) (n m rows y : ℕ) (old row : List A) → n ≡ m → length old ≡ rows * m → length row ≡ length (take (y * n + n - y * n) (drop (y * n) old)) → y < rows
    → IsPut m rows y old row (put_mid (y * n) (y * n + n - y * n) old row)
row-put d n m rows y old row e long same in_rows =
    let cut : y * n + n - y * n ≡ m = omega (arith, e) in
    let start : y * n ≡ y * m = ap (λ (k : ℕ). y * k) e in
    let within : y * m + m ≤ length old = omega (arith, row-within m rows y in_rows, long) in
    let wide : length row ≡ m = same ∙ (rw (cut, start) (grind (arith, places))) in
    let new = put_mid (y * m) m old row in
    let new_long : length new ≡ rows * m = put-long (y * m) m old row wide within ∙ long in
    rw (cut, start) (record {
      here = ext_get_or d (row_words m new y) row (row-long m rows y new new_long in_rows ∙ sym wide) (λ j lt.
          let j_in : j < m = omega (arith, lt, row-long m rows y new new_long in_rows) in
          row-get d m rows y j new new_long in_rows j_in ∙ put-get d (y * m) m j old row wide within j_in);
      others = λ k k_in ne. ext_get_or d (row_words m new k) (row_words m old k) (row-long m rows k new new_long k_in ∙ sym (row-long m rows k old long k_in)) (λ j lt.
          let j_in : j < m = omega (arith, lt, row-long m rows k new new_long k_in) in
          row-get d m rows k j new new_long k_in j_in ∙ put-apart d (y * m) m (k * m + j) old row wide within (elim (cases_lt k y) [
            | inl lt ↦ inl (omega (arith, row-within m y k lt, j_in))
            | inr le ↦ inr (omega (arith, row-within m k y (omega (arith, le, ne))))
          ]) ∙ sym (row-get d m rows k j old long k_in j_in));
    })

-- as code reads it
pub row-read : {A : Type 0} (n m y : ℕ) (xs : List A) → n ≡ m → take (y * n + n - y * n) (drop (y * n) xs) ≡ row_words m xs y
row-read n m y xs e =
    ap₂ (λ (k s : ℕ). take k (drop s xs)) (let cut : y * n + n - y * n ≡ m = omega (arith, e) in cut) (ap (λ (k : ℕ). y * k) e)

-- the rows before row y are as wanted, and the others as they were
pub record AreDone {A : Type 0} (Wanted : ℕ → List A → Type 0) (m rows y : ℕ) (old now : List A) : Type 0 where
  pub done : (k : ℕ) → k < y → Wanted k (row_words m now k)
  pub rest : (k : ℕ) → y ≤ k → k < rows → row_words m now k ≡ row_words m old k

pub one-more : {A : Type 0} {Wanted : ℕ → List A → Type 0} {m rows y : ℕ} {old now row new : List A} → AreDone Wanted m rows y old now → IsPut m rows y now row new → y < rows
    → Wanted y row → AreDone Wanted m rows (y + 1) old new
one-more {Wanted = Wanted} {m = m} {y = y} {new = new} before put in_rows here = record {
  done = λ k lt. elim (cases_eq k y) [
    | inl e ↦ subst (λ j. Wanted j (row_words m new j)) (sym e) (subst (Wanted y) (sym put.here) here)
    | inr ne ↦ subst (Wanted k) (sym (put.others k (omega (arith, lt, in_rows)) ne)) (before.done k (omega (arith, lt, ne)))
  ];
  rest = λ k from k_in. put.others k k_in (λ e. absurd (omega (arith, from, e))) ∙ before.rest k (omega (arith, from)) k_in;
}
