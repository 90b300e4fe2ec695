-- The word of a direction, from 64 states at once.
use Rattle.std.proofs.Common.{◌≡◌, ℕ, ◌+◌, ◌*◌, ◌/◌, ◌%◌, ◌^◌, ◌<◌, ◌==◌, Bool, true, false, not, cond, eqb, List, map, length, get_or, replicate, refl, ap, ◌∙◌, arith, w8}
use Rattle.std.proofs.lemmas.Bool.{agree_below_at}
use Rattle.std.proofs.lemmas.List.{get_or-map, length-map}
use Rattle.std.proofs.lemmas.Simd.{bitmask_splat, bit_mask_l, zip2_splat}
use lib.Bits.{bit_and}
use lib.Lanes.{zip2, mask_l, top}
use Rattle.gas_geom.specs.Gas.{holds}

holds-mask_l : (ms : List Bool) (b : ℕ) → holds (mask_l ms) b ≡ get_or ms b false
holds-mask_l ms b = ap (λ n. n == 1) (bit_mask_l ms b) ∙ one (get_or ms b false)
  where
    one : (m : Bool) → (cond m 1 0 == 1) ≡ m
    one true = refl
    one false = refl

-- whether a state holds direction i, tried for all states
masked : (x i : ℕ) → x < 256 → i < 8 → not (eqb (bit_and x (1 * 2 ^ i % 2 ^ 8)) 0) ≡ holds x i
masked x i small few =
    let n : ℕ = 256 * i + x in
    let low : n % 256 ≡ x = omega (arith, small) in
    let high : n / 256 ≡ i = omega (arith, small) in
    rw (low, high) at (agree_below_at (λ n. not (eqb (bit_and (n % 256) (1 * 2 ^ (n / 256) % 2 ^ 8)) 0)) (λ n. holds (n % 256) (n / 256)) 2048 n refl (omega (arith, small, few)))

pub plane-bits : (states : List ℕ) (i b : ℕ) → length states ≡ 64 → get_or states b 0 < 256 → i < 8 → b < 64
    → holds (mask_l (map (top 7) (zip2 (λ x y. cond (not (eqb x y)) 255 0) (zip2 bit_and states (replicate 64 (1 * 2 ^ i % 2 ^ 8))) (replicate 64 0))) % 2 ^ 64) b ≡ holds (get_or states b 0) i
plane-bits states i b long small few within =
    let k : ℕ = 1 * 2 ^ i % 2 ^ 8 in
    let f : ℕ → ℕ = λ x. bit_and x k in
    let p : ℕ → Bool = λ x. not (eqb x 0) in
    ap (λ l. holds (mask_l (map (top 7) (zip2 (λ x y. cond (not (eqb x y)) 255 0) l (replicate 64 0))) % 2 ^ 64) b) (zip2_splat bit_and states 64 k long)
    ∙ ap (λ n. holds n b) (bitmask_splat w8 (λ x y. not (eqb x y)) (map f states) 64 0 (length-map states f ∙ long) (omega arith))
    ∙ holds-mask_l (map p (map f states)) b
    ∙ get_or-map p (map f states) b 0 false (omega (arith, within, long, length-map states f))
    ∙ ap p (get_or-map f states b 0 0 (omega (arith, within, long)))
    ∙ masked (get_or states b 0) i small few
