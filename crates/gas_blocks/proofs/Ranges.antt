-- Lemmas about ranges of numbers, their parts, and lists that grow.
use Rattle.std.proofs.Common.{◌≡◌, ◌∙◌, ap, sym, cond, true, false, Bool, ℕ, zero, suc, ◌+◌, ◌-◌, ◌*◌, ◌/◌, ◌<◌, ◌≤◌, min, refl, zero-add, append_assoc, arith, List, [], ◌∷◌, ◌++◌, map, append-nil, ap₂}
use Rattle.std.specs.Prelude.{◌==◌, filter}
use Rattle.std.specs.Int.{div_ceil}
use Rattle.std.specs.List.{range_with_len, flat_map}
use Rattle.std.proofs.lemmas.Bool.{ne_eqb, eq-eqb}
use Rattle.std.proofs.Math.Nat.{div-lt_iff_lt-mul, mul-le-mul_right}
use Rattle.std.proofs.lemmas.List.Elements.{filter-append}
use Rattle.std.proofs.lemmas.List.FromFn.{map-range_with_len_more}
use Rattle.std.proofs.lemmas.Grind.{flat_map-append, div_ceil_times}
use Rattle.gas_bits.proofs.Ones.{range-append}
use Rattle.gas_blocks.specs.Inner.Tally.{part}

filter_none : (p : ℕ → Bool) (a n : ℕ) → ((i : ℕ) → a ≤ i → i < a + n → p i ≡ false) → filter p (range_with_len a n) ≡ []
filter_none p a zero h = refl
filter_none p a (suc n) h =
    ap (λ b. cond b (a ∷ filter p (range_with_len (a + 1) n)) (filter p (range_with_len (a + 1) n))) (h a (omega arith) (omega arith))
    ∙ filter_none p (a + 1) n (λ i low high. h i (omega arith) (omega arith))

filter_all : (p : ℕ → Bool) (a n : ℕ) → ((i : ℕ) → a ≤ i → i < a + n → p i ≡ true) → filter p (range_with_len a n) ≡ range_with_len a n
filter_all p a zero h = refl
filter_all p a (suc n) h =
    ap (λ b. cond b (a ∷ filter p (range_with_len (a + 1) n)) (filter p (range_with_len (a + 1) n))) (h a (omega arith) (omega arith))
    ∙ ap (λ xs. a ∷ xs) (filter_all p (a + 1) n (λ i low high. h i (omega arith) (omega arith)))

-- numbers before, in and after the part that begins at a multiple of a size
below_part : (size k i : ℕ) → 1 ≤ size → i < k * size → (i / size == k) ≡ false
below_part size k i some low =
    let less : i / size < k = (div-lt_iff_lt-mul some).1 low in
    ne_eqb (i / size) k (λ e. absurd (omega arith))

past_part : (size k i : ℕ) → 1 ≤ size → k * size + size ≤ i → (i / size == k) ≡ false
past_part size k i some high =
    ne_eqb (i / size) k (λ e. let less : i < (k + 1) * size = (div-lt_iff_lt-mul some).0 (let h : i / size < k + 1 = omega arith in h) in absurd (omega arith))

in_part : (size k i : ℕ) → 1 ≤ size → k * size ≤ i → i < k * size + size → (i / size == k) ≡ true
in_part size k i some low high =
    let less : i / size < k + 1 = (div-lt_iff_lt-mul some).1 (let h : i < (k + 1) * size = omega arith in h) in
    let more : k ≤ i / size = by_order (i / size) k (λ h. let bad : i < k * size = (div-lt_iff_lt-mul some).0 h in omega arith) in
    eq-eqb (i / size) k (omega arith)
  where
    by_order : (a b : ℕ) → (a < b → ⊥) → b ≤ a
    by_order a b never = omega arith

-- a part is a range
pub part-range : (n size k m : ℕ) → 1 ≤ size → k * size < n → m ≡ min size (n - k * size) → part n size k ≡ range_with_len (k * size) m
part-range n size k m some begins e =
    let p : ℕ → Bool = λ i. i / size == k in
    let rest : ℕ = n - (k * size + m) in
    let whole : n ≡ k * size + (m + rest) = omega arith in
    let front : filter p (range_with_len 0 (k * size)) ≡ [] = filter_none p 0 (k * size) (λ i low high. below_part size k i some (omega arith)) in
    let middle : filter p (range_with_len (k * size) m) ≡ range_with_len (k * size) m =
    filter_all p (k * size) m (λ i low high. in_part size k i some low (omega arith)) in
    let back : filter p (range_with_len (k * size + m) rest) ≡ [] =
    filter_none p (k * size + m) rest (λ i low high. past_part size k i some (omega arith)) in
    ap (λ x. filter p (range_with_len 0 x)) whole
    ∙ ap (filter p) (range-append 0 (k * size) (m + rest) ∙ ap (λ a. range_with_len 0 (k * size) ++ range_with_len a (m + rest)) (zero-add (k * size)) ∙ ap (λ xs. range_with_len 0 (k * size) ++ xs) (range-append (k * size) m rest))
    ∙ filter-append p _ _ ∙ ap (λ xs. xs ++ filter p (range_with_len (k * size) m ++ range_with_len (k * size + m) rest)) front
    ∙ filter-append p _ _ ∙ ap (λ xs. xs ++ filter p (range_with_len (k * size + m) rest)) middle
    ∙ ap (λ xs. range_with_len (k * size) m ++ xs) back ∙ append-nil _

-- a column of blocks begins before the end of a row
pub begins-within : (n size k : ℕ) → 1 ≤ size → k < div_ceil n size → k * size < n
begins-within n size k some lt =
    let less : (k + 1) * size ≤ div_ceil n size * size = mul-le-mul_right size (let h : k + 1 ≤ div_ceil n size = omega arith in h) in
    omega (arith, less, (div_ceil_times n size some).1)

-- one more item of a function's values at the numbers from 0 on
pub pushed : {X : Type 0} (f : ℕ → X) (old now more : List X) (n : ℕ) (x : X) → now ≡ old ++ map f (range_with_len 0 n) → more ≡ now ++ x ∷ [] → x ≡ f n
    → more ≡ old ++ map f (range_with_len 0 (n + 1))
pushed f old now more n x so_far push is =
    push ∙ ap₂ (λ ys y. ys ++ y ∷ []) so_far is ∙ append_assoc old (map f (range_with_len 0 n)) (f n ∷ [])
    ∙ ap (λ ys. old ++ ys) (sym (map-range_with_len_more f 0 n n (zero-add n)))

-- one more list of a function's values at the numbers from 0 on
pub rows-more : {X : Type 0} (f : ℕ → List X) (now more : List X) (n : ℕ) → now ≡ flat_map f (range_with_len 0 n) → more ≡ now ++ f n
    → more ≡ flat_map f (range_with_len 0 (n + 1))
rows-more f now more n so_far is =
    is ∙ ap (λ ys. ys ++ f n) so_far ∙ ap (λ ys. flat_map f (range_with_len 0 n) ++ ys) (sym (append-nil (f n)) ∙ ap (λ k. f k ++ []) (sym (zero-add n)))
    ∙ sym (flat_map-append f (range_with_len 0 n) (range_with_len (0 + n) 1)) ∙ ap (flat_map f) (sym (range-append 0 n 1))
