-- Workers in a circle: the rows on belt 0 fix the rows on all belts, because each pass begins with what came back from the pass before.
use Rattle.std.proofs.Common.{◌≡◌, ℕ, zero, suc, ◌+◌, ◌*◌, ◌-◌, ◌≤◌, List, [], ◌++◌, length, take, drop, refl, sym, ap, subst, ◌∙◌, arith, append_assoc, append-nil, length-append}
use Rattle.std.proofs.Math.Nat.{suc-mul, mul-le-mul_right}
use Rattle.std.proofs.Math.Seq.{take-append-add}
use Rattle.std.proofs.lemmas.List.{take_at, drop_at, take-take, take-append-le, take_all, drop-append-le, length-take-le, length-drop, take-append-drop}
use Rattle.gas_pipe_model.specs.Inner.Circle.{block, owed_in, on_belt, joined, IsCircle}

pub joined_next : {A : Type 0} (rows : ℕ → List A) (n : ℕ) → joined rows (suc n) ≡ joined rows n ++ rows n
unfolding joined
joined_next rows n = refl

pub owed_next : {A : Type 0} (H : ℕ) (owe : ℕ → List A → List A) (n : ℕ) (q : List A) → owed_in H owe (suc n) q ≡ owed_in H owe n q ++ owe n (block H n q)
unfolding owed_in
owed_next H owe n q = refl

pub owed_none : {A : Type 0} (H : ℕ) (owe : ℕ → List A → List A) (q : List A) → owed_in H owe 0 q ≡ []
unfolding owed_in
owed_none H owe q = refl

pub on_first : {A : Type 0} (H : ℕ) (owe : ℕ → ℕ → List A → List A) (passes : ℕ) (b : List A) → on_belt H owe passes b 0 ≡ b
unfolding on_belt
on_first H owe passes b = refl

pub on_next : {A : Type 0} (H : ℕ) (owe : ℕ → ℕ → List A → List A) (passes : ℕ) (b : List A) (k : ℕ) →
    on_belt H owe passes b (suc k) ≡ owed_in H (owe k) passes (on_belt H owe passes b k)
unfolding on_belt
on_next H owe passes b k = refl

-- what is owed in n passes depends only on their rows
owed_front : {A : Type 0} (H : ℕ) (owe : ℕ → List A → List A) (n : ℕ) (xs ys : List A) → n * H ≤ length xs → owed_in H owe n (xs ++ ys) ≡ owed_in H owe n xs
unfolding owed_in
owed_front H owe zero xs ys h = refl
owed_front {A = A} H owe (suc n) xs ys h =
    let e = suc-mul n H in
    let here : n * H ≤ length xs = omega arith in
    let room : H ≤ length (drop (n * H) xs) = omega (arith, length-drop (n * H) xs) in
    ap (λ (zs : List A). zs ++ owe n (block H n (xs ++ ys))) (owed_front H owe n xs ys here)
    ∙ ap (λ (zs : List A). owed_in H owe n xs ++ owe n zs) (ap (take H) (drop-append-le (n * H) xs ys here) ∙ take-append-le H (drop (n * H) xs) ys room)

-- one pass more
pub owed_pass : {A : Type 0} (H : ℕ) (owe : ℕ → List A → List A) (n : ℕ) (xs q : List A) → length xs ≡ n * H → length q ≡ H →
    owed_in H owe (suc n) (xs ++ q) ≡ owed_in H owe n xs ++ owe n q
owed_pass {A = A} H owe n xs q h l =
    owed_next H owe n (xs ++ q)
    ∙ ap (λ (zs : List A). zs ++ owe n (block H n (xs ++ q))) (owed_front H owe n xs q (omega arith))
    ∙ ap (λ (zs : List A). owed_in H owe n xs ++ owe n zs) (ap (take H) (drop_at xs q (n * H) h) ∙ take_all H q (omega arith))

-- as many rows are owed as came, if that is so in each pass
pub owed_high : {A : Type 0} (H : ℕ) (owe : ℕ → List A → List A) → ((n : ℕ) (q : List A) → length q ≡ H → length (owe n q) ≡ H) →
    (n : ℕ) (q : List A) → n * H ≤ length q → length (owed_in H owe n q) ≡ n * H
unfolding owed_in
owed_high H owe whole zero q h = omega arith
owed_high H owe whole (suc n) q h =
    let e = suc-mul n H in
    let room : H ≤ length (drop (n * H) q) = omega (arith, length-drop (n * H) q) in
    length-append (owed_in H owe n q) (owe n (block H n q))
    ∙ omega (arith, owed_high H owe whole n q (omega arith), whole n (block H n q) (length-take-le H (drop (n * H) q) room))

module _ {A : Type 0} (H N : ℕ) (owe : ℕ → ℕ → List A → List A) (back : List A → List A) (rows : ℕ → ℕ → List A) (is : IsCircle H N owe back rows) where
  pub joined_high : (k n : ℕ) → length (joined (λ i. rows i k) n) ≡ n * H
  unfolding joined
  joined_high k zero = omega arith
  joined_high k (suc n) = length-append (joined (λ i. rows i k) n) (rows n k) ∙ omega (arith, joined_high k n, is.high n k, suc-mul n H)

  owed_take : (k n : ℕ) (q : List A) → n * H ≤ length q → owed_in H (owe k) n (take (n * H) q) ≡ owed_in H (owe k) n q
  owed_take k n q h =
      sym (owed_front H (owe k) n (take (n * H) q) (drop (n * H) q) (omega (arith, length-take-le (n * H) q h)))
      ∙ ap (owed_in H (owe k) n) (take-append-drop (n * H) q)

  owed_short : (k m d : ℕ) (q : List A) → (m + d) * H ≤ length q → take (m * H) (owed_in H (owe k) (m + d) q) ≡ owed_in H (owe k) m q
  owed_short k m zero q h =
      let e : m + 0 ≡ m = omega arith in
      let long : m * H ≤ length q = subst (λ (n : ℕ). n * H ≤ length q) e h in
      ap (λ (n : ℕ). take (m * H) (owed_in H (owe k) n q)) e ∙ take_all (m * H) (owed_in H (owe k) m q) (omega (arith, owed_high H (owe k) (is.whole k) m q long))
  owed_short k m (suc d) q h =
      let e : m + suc d ≡ suc (m + d) = omega arith in
      let long : suc (m + d) * H ≤ length q = subst (λ (n : ℕ). n * H ≤ length q) e h in
      let less : (m + d) * H ≤ length q = omega (arith, suc-mul (m + d) H) in
      let fewer : m * H ≤ (m + d) * H = mul-le-mul_right H (let le : m ≤ m + d = omega arith in le) in
      ap (λ (n : ℕ). take (m * H) (owed_in H (owe k) n q)) e
      ∙ ap (take (m * H)) (owed_next H (owe k) (m + d) q)
      ∙ take-append-le (m * H) (owed_in H (owe k) (m + d) q) (owe k (m + d) (block H (m + d) q)) (omega (arith, owed_high H (owe k) (is.whole k) (m + d) q less))
      ∙ owed_short k m d q less

  -- the first rows that a worker owes are those that it owes for the first rows
  owed_first : (k m n : ℕ) (q : List A) → m ≤ n → n * H ≤ length q → take (m * H) (owed_in H (owe k) n q) ≡ owed_in H (owe k) m (take (m * H) q)
  owed_first k m n q le h =
      let e : n ≡ m + (n - m) = omega arith in
      let fewer : m * H ≤ n * H = mul-le-mul_right H le in
      ap (λ (i : ℕ). take (m * H) (owed_in H (owe k) i q)) e
      ∙ owed_short k m (n - m) q (subst (λ (i : ℕ). i * H ≤ length q) e h)
      ∙ sym (owed_take k m q (omega arith))

  -- a worker that took what its belt is to carry puts what the next belt is to carry
  owed_joined : (k n : ℕ) → owed_in H (owe k) n (joined (λ i. rows i k) n) ≡ joined (λ i. rows i (suc k)) n
  unfolding joined
  owed_joined k zero = owed_none H (owe k) []
  owed_joined k (suc n) =
      owed_pass H (owe k) n (joined (λ i. rows i k) n) (rows n k) (joined_high k n) (is.high n k)
      ∙ ap (λ (zs : List A). zs ++ owe k n (rows n k)) (owed_joined k n)
      ∙ ap (λ (zs : List A). joined (λ i. rows i (suc k)) n ++ zs) (is.on n k)

  -- belt 0 in one pass more: the first rows, and then what came back
  pub joined_round : (n : ℕ) → joined (λ i. rows i 0) (suc n) ≡ rows 0 0 ++ joined (λ i. rows i N) n
  unfolding joined
  joined_round zero = sym (append-nil (rows 0 0))
  joined_round (suc n) =
      ap (λ (zs : List A). zs ++ rows (suc n) 0) (joined_round n)
      ∙ append_assoc (rows 0 0) (joined (λ i. rows i N) n) (rows (suc n) 0)
      ∙ ap (λ (zs : List A). rows 0 0 ++ (joined (λ i. rows i N) n ++ zs)) (is.again n)

  module _ (passes : ℕ) (b : List A) (long : length b ≡ passes * H) where
    pub on_high : (k : ℕ) → length (on_belt H owe passes b k) ≡ passes * H
    unfolding on_belt
    on_high zero = long
    on_high (suc k) = owed_high H (owe k) (is.whole k) passes (on_belt H owe passes b k) (omega (arith, on_high k))

    -- if belt 0 carries what it is to in n passes, all belts do
    along : (n : ℕ) → n ≤ passes → take (n * H) b ≡ joined (λ i. rows i 0) n → (k : ℕ) → take (n * H) (on_belt H owe passes b k) ≡ joined (λ i. rows i k) n
    unfolding on_belt
    along n le first zero = first
    along n le first (suc k) =
        owed_first k n passes (on_belt H owe passes b k) le (omega (arith, on_high k))
        ∙ ap (owed_in H (owe k) n) (along n le first k)
        ∙ owed_joined k n

    module _ (fed : b ≡ take (passes * H) (rows 0 0 ++ back (on_belt H owe passes b N))) where
      -- the rows of n passes fix those of one more
      around : (n : ℕ) → n ≤ passes → take (n * H) b ≡ joined (λ i. rows i 0) n
      unfolding joined
      around zero le = let e : 0 * H ≡ 0 = omega arith in ap (λ (n : ℕ). take n b) e
      around (suc n) le =
          let last = on_belt H owe passes b N in
          let first = rows 0 0 in
          let e : suc n * H ≡ length first + n * H = omega (arith, suc-mul n H, is.high 0 0) in
          let fewer : suc n * H ≤ passes * H = mul-le-mul_right H le in
          ap (take (suc n * H)) fed
          ∙ take-take (suc n * H) (passes * H) (first ++ back last) fewer
          ∙ ap (λ (m : ℕ). take m (first ++ back last)) e
          ∙ take-append-add first (back last) (n * H)
          ∙ ap (λ (zs : List A). first ++ zs)
          (is.front (n * H) last ∙ ap back (along n (omega arith) (around n (omega arith)) N) ∙ is.kept n)
          ∙ sym (joined_round n)

      -- each belt carries what it is to
      pub circle_law : (k : ℕ) → on_belt H owe passes b k ≡ joined (λ i. rows i k) passes
      circle_law k =
          sym (take_all (passes * H) (on_belt H owe passes b k) (omega (arith, on_high k)))
          ∙ along passes (omega arith) (around passes (omega arith)) k

  -- what is left of the first rows and the rows that came back, after the rows that were put: the last pass's
  pub left_over : (n : ℕ) → drop (suc n * H) (rows 0 0 ++ joined (λ i. rows i N) (suc n)) ≡ rows n N
  left_over n =
      let before = joined (λ i. rows i N) n in
      let len : length (rows 0 0 ++ before) ≡ suc n * H = length-append (rows 0 0) before ∙ omega (arith, joined_high N n, is.high 0 0, suc-mul n H) in
      ap (λ (zs : List A). drop (suc n * H) (rows 0 0 ++ zs)) (joined_next (λ i. rows i N) n)
      ∙ ap (drop (suc n * H)) (sym (append_assoc (rows 0 0) before (rows n N)))
      ∙ drop_at (rows 0 0 ++ before) (rows n N) (suc n * H) len

  -- the rows that return
  pub goes_round : (n : ℕ) → take (n * H) (joined (λ i. rows i N) (suc n)) ≡ drop H (joined (λ i. rows i 0) (suc n))
  goes_round n =
      ap (take (n * H)) (joined_next (λ i. rows i N) n) ∙ take_at (joined (λ i. rows i N) n) (rows n N) (n * H) (joined_high N n)
      ∙ sym (ap (drop H) (joined_round n) ∙ drop_at (rows 0 0) (joined (λ i. rows i N) n) H (is.high 0 0))
