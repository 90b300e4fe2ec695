-- The ones of words are the set bits of a range of cells.
use Rattle.std.proofs.Common.{◌≡◌, ℕ, zero, suc, ◌+◌, ◌-◌, ◌*◌, ◌/◌, ◌^◌, ◌<◌, ◌≤◌, min, max, Bool, false, ◌&&◌, cond, List, [], ◌∷◌, ◌++◌, map, get_or, refl, sym, ap, ap₂, ◌∙◌, arith, inl, inr}
use Rattle.std.specs.Prelude.{count_ones, nat_le, nat_lt}
use Rattle.std.specs.List.{range_with_len, count_by}
use Rattle.std.proofs.lemmas.List.Sums.{sum_by-cons, sum_by-append, count_by-le-length}
use Rattle.std.proofs.lemmas.List.FromFn.{length-range_with_len}
use Rattle.std.proofs.lemmas.Simd.{ones-mask_l}
use Rattle.std.proofs.lemmas.Bool.{cases_lt, le-ltb}
use Rattle.std.proofs.lemmas.Bool.Decides.{nat_tests}
use Rattle.std.proofs.Math.Nat.{div-le_self}
use Rattle.gas_geom.specs.Gas.{holds}
use Rattle.gas_bits.specs.Words.{bit}
use Rattle.gas_geom.proofs.Holds.{holds-above}
use Rattle.gas_bits.proofs.Bits.{holds-shr}
use Rattle.gas_bits.proofs.Counting.{from_bits}
use Rattle.gas_bits.proofs.Words.{bit-at}

-- ---- counts over ranges of numbers
pub range-append : (a n m : ℕ) → range_with_len a (n + m) ≡ range_with_len a n ++ range_with_len (a + n) m
range-append a zero m = ap₂ range_with_len (let e : a ≡ a + 0 = omega arith in e) (let e : 0 + m ≡ m = omega arith in e)
range-append a (suc n) m =
    ap (range_with_len a) (let e : suc n + m ≡ suc (n + m) = omega arith in e)
    ∙ ap (λ l. a ∷ l) (range-append (a + 1) n m ∙ ap (λ k. range_with_len (a + 1) n ++ range_with_len k m) (let e : a + 1 + n ≡ a + suc n = omega arith in e))

count-append : (f : ℕ → Bool) (a n m : ℕ) →
    count_by f (range_with_len a (n + m)) ≡ count_by f (range_with_len a n) + count_by f (range_with_len (a + n) m)
count-append f a n m =
    ap (count_by f) (range-append a n m) ∙ sum_by-append (λ x. cond (f x) 1 0) (range_with_len a n) (range_with_len (a + n) m)

pub count-same : (f g : ℕ → Bool) (a b n : ℕ) → ((k : ℕ) → k < n → f (a + k) ≡ g (b + k)) →
    count_by f (range_with_len a n) ≡ count_by g (range_with_len b n)
count-same f g a b zero same = refl
count-same f g a b (suc n) same =
    let here : f a ≡ g b = ap f (let e : a ≡ a + 0 = omega arith in e) ∙ same 0 (omega arith) ∙ ap g (let e : b + 0 ≡ b = omega arith in e) in
    let rest = count-same f g (a + 1) (b + 1) n (λ k h.
    ap f (let e : a + 1 + k ≡ a + (k + 1) = omega arith in e) ∙ same (k + 1) (omega arith) ∙ ap g (let e : b + (k + 1) ≡ b + 1 + k = omega arith in e)) in
    sum_by-cons (λ x. cond (f x) 1 0) a (range_with_len (a + 1) n)
    ∙ ap₂ (λ t s. cond t 1 0 + s) here rest
    ∙ sym (sum_by-cons (λ x. cond (g x) 1 0) b (range_with_len (b + 1) n))

count-none : (a n : ℕ) → count_by (λ (_ : ℕ). false) (range_with_len a n) ≡ 0
count-none a zero = refl
count-none a (suc n) =
    sum_by-cons (λ (x : ℕ). 0) a (range_with_len (a + 1) n) ∙ ap (λ s. 0 + s) (count-none (a + 1) n)

pub count-map : (f : ℕ → Bool) (xs : List ℕ) → count_by (λ b. b) (map f xs) ≡ count_by f xs
count-map f [] = refl
count-map f (x ∷ xs) =
    sum_by-cons (λ b. cond b 1 0) (f x) (map f xs) ∙ ap (λ s. cond (f x) 1 0 + s) (count-map f xs) ∙ sym (sum_by-cons (λ y. cond (f y) 1 0) x xs)

-- ---- the ones of a word
ones-count : (w : ℕ) → w < 2 ^ 64 → count_ones w ≡ count_by (holds w) (range_with_len 0 64)
ones-count w h = ap count_ones (sym (from_bits 64 w h)) ∙ ones-mask_l (holds w) (range_with_len 0 64)

-- the places that hold, moved down by `from`
count-moved : (f g : ℕ → Bool) (from to : ℕ) → from ≤ to → to ≤ 64 →
    ((k : ℕ) → k < 64 → f k ≡ (nat_lt (from + k) to && g (from + k))) → count_by f (range_with_len 0 64) ≡ count_by g (range_with_len from (to - from))
count-moved f g from to order within same =
    let n = to - from in
    ap (λ k. count_by f (range_with_len 0 k)) (let e : 64 ≡ n + (64 - n) = omega arith in e)
    ∙ count-append f 0 n (64 - n)
    ∙ ap₂ (λ s t. s + t)
    (count-same f g 0 from n (λ k h. let e = same (0 + k) (omega arith) in grind (arith, nat_tests)))
    (count-same f (λ _. false) (0 + n) 0 (64 - n) (λ k h. let e = same (0 + n + k) (omega arith) in grind (arith, nat_tests))
    ∙ count-none 0 (64 - n))
    ∙ (let e : count_by g (range_with_len from n) + 0 ≡ count_by g (range_with_len from n) = omega arith in e)

-- the bits from one place up to another, of a word without those past them
pub ones-between : (word low from to : ℕ) → low < 2 ^ 64 → from ≤ to → 1 ≤ to → to ≤ 64 →
    ((b : ℕ) → b < 64 → holds low b ≡ (nat_le b (to - 1) && holds word b)) →
    count_ones (low / 2 ^ from) ≡ count_by (holds word) (range_with_len from (to - from))
ones-between word low from to small order some within is =
    ones-count (low / 2 ^ from) (omega (arith, div-le_self low (2 ^ from)))
    ∙ count-moved (holds (low / 2 ^ from)) (holds word) from to order within (λ k h. holds-shr from k low ∙ cut (from + k))
  where
    cut : (b : ℕ) → holds low b ≡ (nat_lt b to && holds word b)
    cut b = elim (cases_lt b 64) [
      | inl lt ↦ is b lt ∙ ap (λ t. t && holds word b) (let e : nat_le b (to - 1) ≡ nat_lt b to = grind (arith, nat_tests) in e)
      | inr high ↦ holds-above low 64 b small high ∙ sym (ap (λ t. t && holds word b) (le-ltb b to (omega arith)))
    ]

-- ---- the ones of words
pub count-le : (f : ℕ → Bool) (a n : ℕ) → count_by f (range_with_len a n) ≤ n
count-le f a n = grind (arith, count_by-le-length, length-range_with_len)

-- the cells of one word more
pub count-more : (words : List ℕ) (from to j total ones first end : ℕ) → from ≤ to → from < 64 * j + 64 → 64 * j < to →
    first ≡ max from (64 * j) - 64 * j → end ≡ min (to - 64 * j) 64 →
    total ≡ count_by (bit words) (range_with_len from (min to (64 * j) - from)) →
    ones ≡ count_by (holds (get_or words j 0)) (range_with_len first (end - first)) →
    total + ones ≡ count_by (bit words) (range_with_len from (min to (64 * (j + 1)) - from))
count-more words from to j total ones first end order begins there is_first is_end so_far here =
    let n = min to (64 * j) - from in
    let m = end - first in
    ap₂ (λ s t. s + t) so_far
    (here ∙ count-same (holds (get_or words j 0)) (bit words) first (from + n) m (λ k h.
    sym (bit-at words j (first + k) (omega arith)) ∙ ap (bit words) (let e : 64 * j + (first + k) ≡ from + n + k = omega arith in e)))
    ∙ sym (count-append (bit words) from n m)
    ∙ ap (λ k. count_by (bit words) (range_with_len from k)) (let e : n + m ≡ min to (64 * (j + 1)) - from = omega arith in e)
