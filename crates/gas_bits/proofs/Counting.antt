-- The ones of a word are its bits.
use Rattle.std.proofs.Common.{◌≡◌, ℕ, zero, suc, ◌^◌, ◌<◌, ◌≤◌, ◌==◌, Bool, false, cond, map, refl, sym, ap, ◌∙◌, subst, arith}
use Rattle.std.specs.Prelude.{count_ones}
use Rattle.std.specs.List.{range_with_len}
use Rattle.std.specs.Int.{bit_at}
use Rattle.std.specs.Simd.Lanes.{mask_l}
use Rattle.std.proofs.lemmas.List.FromFn.{get_or-map-range_with_len, length-map-range_with_len}
use Rattle.std.proofs.lemmas.Nat.Bits.{bit_at-lt, same_from_bits_below}
use Rattle.std.proofs.lemmas.Simd.{ones-mask_l, mask_l-lt, bit_mask_l}
use Rattle.gas_geom.specs.Gas.{holds}
use Rattle.gas_geom.proofs.Holds.{bit_cases}
use Rattle.gas_geom.proofs.Sums.{sum_below, sum_below-cong, count-below}

-- ---- the ones of a word
abbrev pub one : Bool → ℕ
one b = cond b 1 0

pub one-bit : (s i : ℕ) → one (holds s i) ≡ bit_at s i
one-bit s i = bit_cases (λ x. one (x == 1) ≡ x) refl refl (bit_at s i) (bit_at-lt s i)

pub from_bits : (d s : ℕ) → s < 2 ^ d → mask_l (map (holds s) (range_with_len 0 d)) ≡ s
from_bits d s h =
    same_from_bits_below d _ s
    (subst (λ k. mask_l (map (holds s) (range_with_len 0 d)) < 2 ^ k) (length-map-range_with_len (holds s) 0 d) (mask_l-lt _)) h
    (λ i low. bit_mask_l _ i ∙ ap one (get_or-map-range_with_len (holds s) 0 d i i false low (omega arith)) ∙ one-bit s i)

pub ones-bits : (d s : ℕ) → s < 2 ^ d → count_ones s ≡ sum_below d (λ i. bit_at s i)
ones-bits d s h =
    ap count_ones (sym (from_bits d s h)) ∙ ones-mask_l (holds s) (range_with_len 0 d)
    ∙ count-below (holds s) d ∙ sum_below-cong d _ _ (λ i _. one-bit s i)

-- no more bits than places
pub bits-le : (n s : ℕ) → sum_below n (λ i. bit_at s i) ≤ n
bits-le zero s = omega arith
bits-le (suc n) s = omega (arith, bits-le n s, bit_at-lt s n)

pub ones-le_64 : (w : ℕ) → w < 2 ^ 64 → count_ones w ≤ 64
ones-le_64 w h = omega (arith, ones-bits 64 w h, bits-le 64 w)
