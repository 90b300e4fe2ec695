-- Finite sums over the numbers below n: equal terms, sums of sums, a double sum in either order, and a sum of which a test
-- picks one term.
use Rattle.std.proofs.Common.{◌≡◌, ℕ, zero, suc, ◌+◌, ◌<◌, Bool, if◌then◌else◌, ◌==◌, ◌&&◌, ap, ◌∙◌, sym, refl, arith, add-one, zero-add}
use Rattle.std.specs.Prelude.{nat_lt, sum_by, count_by, map}
use Rattle.std.specs.List.{range_with_len}
use Rattle.std.proofs.lemmas.List.{map-id}
use Rattle.std.proofs.lemmas.List.FromFn.{sum_by-map-range_with_len_more}
use Rattle.std.proofs.lemmas.Bool.{lt-ltb, le-ltb}
use Rattle.std.proofs.lemmas.Bool.Decides.{nat_tests}

-- the sum of `f` over the numbers below `n`
abbrev pub sum_below : ℕ → (ℕ → ℕ) → ℕ
sum_below zero f = 0
sum_below (suc n) f = sum_below n f + f n

pub sum_below-cong : (n : ℕ) (f g : ℕ → ℕ) → ((k : ℕ) → k < n → f k ≡ g k) → sum_below n f ≡ sum_below n g
sum_below-cong zero f g e = refl
sum_below-cong (suc n) f g e =
    let rest : sum_below n f ≡ sum_below n g = sum_below-cong n f g (λ k h. e k (omega arith)) in
    let last : f n ≡ g n = e n (omega arith) in
    omega arith

pub sum_below-zero : (n : ℕ) → sum_below n (λ _. 0) ≡ 0
sum_below-zero zero = refl
sum_below-zero (suc n) = omega (arith, sum_below-zero n)

pub sum_below-add : (n : ℕ) (f g : ℕ → ℕ) → sum_below n (λ k. f k + g k) ≡ sum_below n f + sum_below n g
sum_below-add zero f g = refl
sum_below-add (suc n) f g = omega (arith, sum_below-add n f g)

-- a double sum in either order
pub sum_below-swap : (m n : ℕ) (f : ℕ → ℕ → ℕ) →
    sum_below m (λ i. sum_below n (λ j. f i j)) ≡ sum_below n (λ j. sum_below m (λ i. f i j))
sum_below-swap zero n f = sym (sum_below-zero n)
sum_below-swap (suc m) n f =
    ap (λ v. v + sum_below n (λ j. f m j)) (sum_below-swap m n f)
    ∙ sym (sum_below-add n (λ j. sum_below m (λ i. f i j)) (λ j. f m j))

-- a sum over a list that is made by index
pub sum_by-row : {X : Type 0} (g : X → ℕ) (f : ℕ → X) (n : ℕ) → sum_by g (map f (range_with_len 0 n)) ≡ sum_below n (λ k. g (f k))
sum_by-row g f zero = refl
sum_by-row g f (suc n) =
    ap (λ m. sum_by g (map f (range_with_len 0 m))) (sym (add-one n))
    ∙ sum_by-map-range_with_len_more g f 0 n n (zero-add n)
    ∙ ap (λ s. s + g (f n)) (sum_by-row g f n)

pub count-below : (p : ℕ → Bool) (n : ℕ) → count_by p (range_with_len 0 n) ≡ sum_below n (λ k. if p k then 1 else 0)
count-below p n = ap (count_by p) (sym (map-id (range_with_len 0 n))) ∙ sum_by-row (λ k. if p k then 1 else 0) (λ k. k) n

-- a number where a test holds, else 0
abbrev pub when : Bool → ℕ → ℕ
when b n = if b then n else 0

-- a sum of which one term is picked
pick_one : (b : Bool) (k n : ℕ) (f : ℕ → ℕ) →
    when (nat_lt k n && b) (f k) + when (b && (k == n)) (f n) ≡ when (nat_lt k (suc n) && b) (f k)
pick_one b k n f = grind (arith, nat_tests)

sum_below-picked : (b : Bool) (k n : ℕ) (f : ℕ → ℕ) → sum_below n (λ j. when (b && (k == j)) (f j)) ≡ when (nat_lt k n && b) (f k)
sum_below-picked b k zero f = ap (λ t. when (t && b) (f k)) (sym (le-ltb k 0 (omega arith)))
sum_below-picked b k (suc n) f = ap (λ v. v + when (b && (k == n)) (f n)) (sum_below-picked b k n f) ∙ pick_one b k n f

pub sum_below-pick : (b : Bool) (k n : ℕ) (f : ℕ → ℕ) → k < n → sum_below n (λ j. when (b && (k == j)) (f j)) ≡ when b (f k)
sum_below-pick b k n f h = sum_below-picked b k n f ∙ ap (λ t. when (t && b) (f k)) (lt-ltb k n h)
