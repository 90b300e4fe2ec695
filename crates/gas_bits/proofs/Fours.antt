-- One bit of a lane of four words that were shifted or joined.
use Rattle.std.proofs.Common.{◌≡◌, ℕ, zero, suc, take, drop, ◌+◌, ◌-◌, ◌*◌, ◌/◌, ◌%◌, ◌^◌, ◌<◌, ◌≤◌, ◌&&◌, ◌==◌, if◌then◌else◌, List, length, get_or, map, not, replicate, refl, sym, ap, ap₂, ◌∙◌, arith, bit_and, bit_or}
use Rattle.std.proofs.lemmas.Bool.Decides.{nat_tests}
use Rattle.std.proofs.lemmas.List.{get_or-map, length-map}
use Rattle.std.proofs.lemmas.Simd.{get_or-zip2, length-zip2, get_or-replicate, get_or-chunk}
use lib.Lanes.{zip2, chunk}
use Rattle.gas_geom.specs.Gas.{holds}
use Rattle.gas_geom.proofs.Holds.{holds-and, holds-not}
use Rattle.gas_bits.proofs.Cells.{part_get}
use Rattle.gas_bits.proofs.ShiftedBits.{holds-from_west, holds-from_east, holds-streamed, streamed_bit}

-- ---- four words that were read
-- what holds of each lane
pub each_lane : (P : ℕ → Type 0) → P 0 → P 1 → P 2 → P 3 → (l : ℕ) → l < 4 → P l
each_lane P p0 p1 p2 p3 zero h = p0
each_lane P p0 p1 p2 p3 (suc zero) h = p1
each_lane P p0 p1 p2 p3 (suc (suc zero)) h = p2
each_lane P p0 p1 p2 p3 (suc (suc (suc zero))) h = p3
each_lane P p0 p1 p2 p3 (suc (suc (suc (suc n)))) h = absurd (omega arith)

pub four_read : (xs : List ℕ) (j l : ℕ) → j + 4 ≤ length xs → l < 4 → get_or (chunk 0 4 (take (j + 4 - j) (drop j xs))) l 0 ≡ get_or xs (j + l) 0
four_read xs j l within h =
    get_or-chunk 0 4 (take (j + 4 - j) (drop j xs)) l 0 h
    ∙ ap (λ k. get_or (take (j + 4 - j) (drop j xs)) k 0) (let e : 0 + l ≡ l = omega arith in e)
    ∙ part_get xs j (j + 4 - j) l (omega (arith, h)) (omega (arith, within))

-- ---- one bit of them
-- lane l of an operation on four lanes
module _ (l : ℕ) (within : l < 4) where
  two : (f : ℕ → ℕ → ℕ) (xs ys : List ℕ) → length xs ≡ 4 → length ys ≡ 4 → get_or (zip2 f xs ys) l 0 ≡ f (get_or xs l 0) (get_or ys l 0)
  two f xs ys ex ey = get_or-zip2 f xs ys l 0 0 0 (omega (arith, within, ex)) (omega (arith, within, ey))

  long : (f : ℕ → ℕ → ℕ) (xs ys : List ℕ) → length xs ≡ 4 → length ys ≡ 4 → length (zip2 f xs ys) ≡ 4
  long f xs ys ex ey = length-zip2 f xs ys (ex ∙ sym ey) ∙ ex

  by_all : (f : ℕ → ℕ → ℕ) (xs : List ℕ) (n : ℕ) → length xs ≡ 4 → get_or (zip2 f xs (replicate 4 n)) l 0 ≡ f (get_or xs l 0) n
  by_all f xs n ex = two f xs (replicate 4 n) ex refl ∙ ap (f (get_or xs l 0)) (get_or-replicate 4 l n 0 within)

  one : (f : ℕ → ℕ) (xs : List ℕ) → length xs ≡ 4 → get_or (map f xs) l 0 ≡ f (get_or xs l 0)
  one f xs ex = get_or-map f xs l 0 0 (omega (arith, within, ex))

  abbrev left : ℕ → ℕ → ℕ
  left x n = x * 2 ^ n % 2 ^ 64

  abbrev right : ℕ → ℕ → ℕ
  right x n = x / 2 ^ n

  -- `(here << 1) | (before >> 63)`
  pub four-west : (before here : List ℕ) (b : ℕ) → length before ≡ 4 → length here ≡ 4 → get_or before l 0 < 2 ^ 64 → b < 64
      → holds (get_or (zip2 bit_or (zip2 (λ x n. x * 2 ^ n % 2 ^ 64) here (replicate 4 1)) (zip2 (λ x n. x / 2 ^ n) before (replicate 4 63))) l 0) b
      ≡ (if b == 0 then holds (get_or before l 0) 63 else holds (get_or here l 0) (b - 1))
  four-west before here b eb eh fits hb =
      ap (λ w. holds w b)
      (two bit_or _ _ (long left here (replicate 4 1) eh refl) (long right before (replicate 4 63) eb refl)
      ∙ ap₂ bit_or (by_all left here 1 eh) (by_all right before 63 eb))
      ∙ holds-from_west (get_or before l 0) (get_or here l 0) b fits hb

  -- `(here >> 1) | (after << 63)`
  pub four-east : (here after : List ℕ) (b : ℕ) → length here ≡ 4 → length after ≡ 4 → get_or here l 0 < 2 ^ 64 → b ≤ 63
      → holds (get_or (zip2 bit_or (zip2 (λ x n. x / 2 ^ n) here (replicate 4 1)) (zip2 (λ x n. x * 2 ^ n % 2 ^ 64) after (replicate 4 63))) l 0) b
      ≡ (if b == 63 then holds (get_or after l 0) 0 else holds (get_or here l 0) (b + 1))
  four-east here after b eh ea fits hb =
      ap (λ w. holds w b)
      (two bit_or _ _ (long right here (replicate 4 1) eh refl) (long left after (replicate 4 63) ea refl)
      ∙ ap₂ bit_or (by_all right here 1 eh) (by_all left after 63 ea))
      ∙ holds-from_east (get_or here l 0) (get_or here l 0) (get_or after l 0) 63 b (omega arith) hb fits (λ k h. grind (arith, nat_tests))

  abbrev inverse : ℕ → ℕ
  inverse x = 2 ^ 64 - 1 - x

  -- `((came & !met) | (met & back)) & !own`
  pub four-bounced : (came met back own : List ℕ) (b : ℕ) → length came ≡ 4 → length met ≡ 4 → length back ≡ 4 → length own ≡ 4
      → get_or met l 0 < 2 ^ 64 → get_or own l 0 < 2 ^ 64 → b < 64
      → holds (get_or (zip2 bit_and (zip2 bit_or (zip2 bit_and came (map (λ x. 2 ^ 64 - 1 - x) met)) (zip2 bit_and met back)) (map (λ x. 2 ^ 64 - 1 - x) own)) l 0) b
      ≡ streamed_bit (holds (get_or came l 0) b) (holds (get_or met l 0) b) (holds (get_or back l 0) b) (holds (get_or own l 0) b)
  four-bounced came met back own b ec em eb eo hm ho hb =
      let not_met = length-map met inverse ∙ em in
      let kept = long bit_and came (map inverse met) ec not_met in
      let sent = long bit_and met back em eb in
      ap (λ w. holds w b)
      (two bit_and _ _ (long bit_or (zip2 bit_and came (map inverse met)) (zip2 bit_and met back) kept sent) (length-map own inverse ∙ eo)
      ∙ ap₂ bit_and
      (two bit_or _ _ kept sent ∙ ap₂ bit_or (two bit_and _ _ ec not_met ∙ ap (bit_and (get_or came l 0)) (one inverse met em)) (two bit_and _ _ em eb))
      (one inverse own eo))
      ∙ holds-streamed (get_or came l 0) (get_or met l 0) (get_or back l 0) (get_or own l 0) b hm ho hb

  -- `four & !mask`
  pub four-cleared : (four mask : List ℕ) (b : ℕ) → length four ≡ 4 → length mask ≡ 4 → get_or mask l 0 < 2 ^ 64 → b < 64
      → holds (get_or (zip2 bit_and four (map (λ x. 2 ^ 64 - 1 - x) mask)) l 0) b ≡ (holds (get_or four l 0) b && not (holds (get_or mask l 0) b))
  four-cleared four mask b ef em fits hb =
      ap (λ w. holds w b) (two bit_and four _ ef (length-map mask inverse ∙ em) ∙ ap (bit_and (get_or four l 0)) (one inverse mask em))
      ∙ holds-and (get_or four l 0) (2 ^ 64 - 1 - get_or mask l 0) b ∙ ap (λ q. holds (get_or four l 0) b && q) (holds-not (get_or mask l 0) b fits hb)
