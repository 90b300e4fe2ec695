-- The directions that a set holds, one direction after another: their number is the sum of the set's bits, and a sum over them the
-- sum over all directions of what those give that the set holds.
use Rattle.std.proofs.Common.{◌≡◌, ℕ, zero, suc, ◌+◌, ◌^◌, ◌<◌, Bool, true, false, if◌then◌else◌, List, [], ◌∷◌, ◌++◌, length, filter, fold, ap, ◌∙◌, sym, refl, arith, add-one, zero-add, inl, inr, ℤ, pos, ◌+ℤ◌}
use Rattle.std.specs.List.{range_with_len}
use Rattle.std.proofs.lemmas.Bool.{cases_eq}
use Rattle.std.proofs.lemmas.Int.{ints}
use Rattle.std.proofs.lemmas.List.{map-id}
use Rattle.std.proofs.lemmas.List.FromFn.{filter_of_map_range_with_len_more}
use Rattle.std.proofs.lemmas.List.Sums.{fold-append, length-filter}
use Rattle.std.proofs.lemmas.Nat.Bits.{bit_at-zero, same_from_bits_below}
use Rattle.std.specs.Int.{bit_at}
use Rattle.gas_geom.specs.Gas.{Rules, IsGas, holds, particles, signed_sum_by}
use Rattle.gas_geom.proofs.Holds.{set_of-lt}
use Rattle.gas_geom.proofs.Sets.{bit_of-holds}
use Rattle.gas_geom.proofs.Sums.{sum_below, sum_below-cong, sum_below-zero, count-below}

-- the directions below n that a set holds
abbrev pub held_below : ℕ → ℕ → List ℕ
held_below n s = filter (holds s) (range_with_len 0 n)

abbrev one_or_none : Bool → ℕ → List ℕ
one_or_none b n = if b then n ∷ [] else []

pub held_below-more : (n s : ℕ) → held_below (suc n) s ≡ held_below n s ++ one_or_none (holds s n) n
held_below-more n s =
    ap (λ k. held_below k s) (sym (add-one n)) ∙ ap (filter (holds s)) (sym (map-id (range_with_len 0 (n + 1))))
    ∙ filter_of_map_range_with_len_more (holds s) (λ (k : ℕ). k) 0 n n (zero-add n)
    ∙ ap (λ (xs : List ℕ). filter (holds s) xs ++ one_or_none (holds s n) n) (map-id (range_with_len 0 n))

pub length-held : (n s : ℕ) → length (held_below n s) ≡ sum_below n (λ i. bit_at s i)
length-held n s =
    length-filter (holds s) (range_with_len 0 n) ∙ count-below (holds s) n ∙ sum_below-cong n _ _ (λ i _. bit_of-holds s i)

pub particles-bits : (gas : Rules) (s : ℕ) → particles gas s ≡ sum_below gas.dirs (λ i. bit_at s i)
particles-bits gas s = length-held gas.dirs s

-- a cell without particles stays without
none-each : (n : ℕ) (f : ℕ → ℕ) → sum_below n f ≡ 0 → (i : ℕ) → i < n → f i ≡ 0
none-each zero f none i h = absurd (omega arith)
none-each (suc n) f none i h = elim (cases_eq i n) [ inl e ↦ ap f e ∙ omega arith | inr ne ↦ none-each n f (omega arith) i (omega arith) ]

pub collide-empty : (gas : Rules) → IsGas gas → (chi : Bool) → gas.collide 0 chi ≡ 0
collide-empty gas laws chi =
    let n = gas.dirs in
    let room : 0 < 2 ^ n = omega (arith, set_of-lt n (λ _. false)) in
    let s = gas.collide 0 chi in
    let none : sum_below n (λ i. bit_at s i) ≡ 0 =
    sym (particles-bits gas s) ∙ laws.collide_keeps 0 chi room ∙ particles-bits gas 0
    ∙ sum_below-cong n (λ i. bit_at 0 i) (λ _. 0) (λ i _. bit_at-zero i) ∙ sum_below-zero n in
    same_from_bits_below n s 0 (laws.collide_within 0 chi room) room (λ i lt. none-each n (λ j. bit_at s j) none i lt ∙ sym (bit_at-zero i))

-- the sum of the numbers `f i` for the `i` below `n` that a set holds
abbrev pub sum_held : ℕ → ℕ → (ℕ → ℤ) → ℤ
sum_held zero s f = pos 0
sum_held (suc n) s f = sum_held n s f +ℤ (if holds s n then f n else pos 0)

fold-one : (f : ℕ → ℤ) (a : ℤ) (b : Bool) (n : ℕ) → fold (λ c i. c +ℤ f i) a (one_or_none b n) ≡ a +ℤ (if b then f n else pos 0)
fold-one f a true n = refl
fold-one f a false n = omega (arith, ints)

pub sum-held : (n s : ℕ) (f : ℕ → ℤ) → signed_sum_by f (held_below n s) ≡ sum_held n s f
sum-held zero s f = refl
sum-held (suc n) s f =
    ap (signed_sum_by f) (held_below-more n s)
    ∙ fold-append (λ c i. c +ℤ f i) (pos 0) (held_below n s) (one_or_none (holds s n) n)
    ∙ fold-one f (signed_sum_by f (held_below n s)) (holds s n) n
    ∙ ap (λ a. a +ℤ (if holds s n then f n else pos 0)) (sum-held n s f)
