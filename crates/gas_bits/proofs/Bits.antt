-- One bit of a word as a truth value, through shifts, masks and writes of one bit.
use Rattle.std.proofs.Common.{◌≡◌, ℕ, ◌+◌, ◌-◌, ◌*◌, ◌/◌, ◌%◌, ◌^◌, ◌<◌, ◌≤◌, true, false, ◌&&◌, ◌==◌, sym, ap, ◌∙◌, arith, w64, cond, inl, inr, leb}
use mathlib.Core.Bool.{and_comm}
use Rattle.std.proofs.lemmas.Nat.Bits.{shr_and_one, bit_at_set_same, bit_at_set_other, bit_at_clear_same, bit_at_clear_other, bit_at_ones, bit_at_ones_above, bit_at_cat_low, bit_at_cat_high, ones_shr}
use lib.Bits.{bit_and, bit_or}
use lib.Pow.{shr-shr}
use Rattle.std.proofs.lemmas.Nat.{div-add-mod', pow_pos}
use Rattle.std.proofs.lemmas.Bool.{cases_lt}
use Rattle.std.proofs.lemmas.Bool.Decides.{nat_tests}
use Rattle.gas_geom.specs.Gas.{holds}
use Rattle.gas_geom.proofs.Holds.{holds-zero, holds-and, holds-not, holds-or, holds-above}

-- the bits below the width
holds-mod : (width n i : ℕ) → i < width → holds (n % 2 ^ width) i ≡ holds n i
holds-mod width n i h =
    sym (ap (λ x. x == 1) (bit_at_cat_low (n / 2 ^ width) width (n % 2 ^ width) i h)) ∙ ap (λ v. holds v i) (div-add-mod' n (2 ^ width))

-- `y << k`
holds-shl : (k i y : ℕ) → i < 64 → holds (y * 2 ^ k % 2 ^ 64) i ≡ holds (y * 2 ^ k + 0) i
holds-shl k i y h = holds-mod 64 (y * 2 ^ k) i h ∙ ap (λ v. holds v i) (let e : y * 2 ^ k ≡ y * 2 ^ k + 0 = omega arith in e)

pub holds-shl_high : (k i y : ℕ) → k ≤ i → i < 64 → holds (y * 2 ^ k % 2 ^ 64) i ≡ holds y (i - k)
holds-shl_high k i y le h = holds-shl k i y h ∙ ap (λ x. x == 1) (bit_at_cat_high y k 0 i (pow_pos k) le)

pub holds-shl_low : (k i y : ℕ) → i < k → i < 64 → holds (y * 2 ^ k % 2 ^ 64) i ≡ false
holds-shl_low k i y lt h = holds-shl k i y h ∙ ap (λ x. x == 1) (bit_at_cat_low y k 0 i lt) ∙ holds-zero i

-- `y >> k`
pub holds-shr : (k i y : ℕ) → holds (y / 2 ^ k) i ≡ holds y (k + i)
holds-shr k i y = ap (λ x. x % 2 == 1) (shr-shr y k i)

-- `(y >> k) & 1 == 1`
pub holds-shr_and : (y k : ℕ) → (bit_and (y / 2 ^ k) 1 == 1) ≡ holds y k
holds-shr_and y k = ap (λ x. x == 1) (shr_and_one y k)

-- `y | 1 << k`
pub holds-set : (y k i : ℕ) → k < 64 → holds (bit_or y (1 * 2 ^ k % 2 ^ 64)) i ≡ cond (i == k) true (holds y i)
holds-set y k i h =
    let same = bit_at_set_same w64 y k h in
    let other = bit_at_set_other w64 y k h i in
    grind (arith, nat_tests)

-- `y & !(1 << k)`
pub holds-clear : (y k i : ℕ) → k < 64 → i < 64 → holds (bit_and y (2 ^ 64 - 1 - 1 * 2 ^ k % 2 ^ 64)) i ≡ cond (i == k) false (holds y i)
holds-clear y k i h lt =
    let same = bit_at_clear_same w64 y k h in
    let other = bit_at_clear_other w64 y k h i lt in
    grind (arith, nat_tests)

pub holds-ones : (k i : ℕ) → i < k → holds (2 ^ k - 1) i ≡ true
holds-ones k i h = ap (λ x. x == 1) (bit_at_ones k i h)

holds-ones_above : (k i : ℕ) → k ≤ i → holds (2 ^ k - 1) i ≡ false
holds-ones_above k i h = ap (λ x. x == 1) (bit_at_ones_above k i h)

-- `y & (MAX >> (63 - last))`
pub holds-up_to : (y last b : ℕ) → last < 64 → holds (bit_and y ((2 ^ 64 - 1) / 2 ^ (63 - last))) b ≡ (leb b last && holds y b)
holds-up_to y last b h =
    let wide : 64 - (63 - last) ≡ last + 1 = omega arith in
    holds-and y ((2 ^ 64 - 1) / 2 ^ (63 - last)) b
    ∙ and_comm (holds y b) (holds ((2 ^ 64 - 1) / 2 ^ (63 - last)) b)
    ∙ ap (λ m. holds m b && holds y b) (ones_shr 64 (63 - last) (omega arith) ∙ ap (λ k. 2 ^ k - 1) wide)
    ∙ ap (λ t. t && holds y b) (elim (cases_lt b (last + 1)) [
      | inl le ↦ holds-ones (last + 1) b (omega arith) ∙ sym (grind (arith, nat_tests))
      | inr lt ↦ holds-ones_above (last + 1) b (omega arith) ∙ sym (grind (arith, nat_tests))
    ])

-- what the operations on one word make of its bits
pub ruleset word_bits = (nat_tests, holds-set, holds-clear, holds-shr_and, holds-up_to, holds-and, holds-not)
