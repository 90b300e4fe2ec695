-- The words of one direction written among those of all.
use Rattle.std.proofs.Common.{◌≡◌, ◌≢◌, ℕ, ◌+◌, ◌-◌, ◌*◌, ◌/◌, ◌%◌, ◌<◌, ◌≤◌, ◌&&◌, if◌then◌else◌, List, length, get_or, take, drop, ap, ◌∙◌, arith}
use Rattle.std.specs.Prelude.{nat_le, nat_lt}
use Rattle.std.proofs.lemmas.Bool.Decides.{nat_tests}
use Rattle.std.proofs.lemmas.Simd.{put_chunk_whole}
use lib.Lanes.{put_chunk}
use Rattle.std.proofs.lemmas.List.{places}
use borrow.Rule.Slice.PartMut.{put_mid}
use Rattle.gas_geom.specs.Gas.{holds}
use Rattle.gas_bits.specs.Words.{bit}
use Rattle.gas_bits.specs.Planes.{has}
use Rattle.gas_bits.proofs.Cells.{place_in, part_length}

-- where the words of direction i begin at `a`, and are `m` words
pub has-put_at : (xs ys : List ℕ) (n i x a m : ℕ) → a ≡ i * n → m ≡ n → n ≡ length ys → x / 64 < n → i * n + n ≤ length xs → has (put_mid a m xs ys) n i x ≡ bit ys x
unfolding bit has
has-put_at xs ys n i x a m ea em e h le =
    ap (λ w. holds w (x % 64)) (let e : get_or (put_mid a m xs ys) (i * n + x / 64) 0 ≡ get_or ys (x / 64) 0 = grind (arith, places) in e)

pub has-put_other_at : (xs ys : List ℕ) (n i k x a m : ℕ) → a ≡ i * n → m ≡ n → n ≡ length ys → x / 64 < n → i * n + n ≤ length xs → k ≢ i → has (put_mid a m xs ys) n k x ≡ has xs n k x
unfolding has
has-put_other_at xs ys n i k x a m ea em e h le ne =
    let before = place_in n i k (x / 64) in
    let after = place_in n k i (n - 1) in
    ap (λ w. holds w (x % 64)) (let e : get_or (put_mid a m xs ys) (k * n + x / 64) 0 ≡ get_or xs (k * n + x / 64) 0 = grind (arith, places) in e)

-- four words of a slice written
pub four_put : (xs four : List ℕ) (j k : ℕ) → length four ≡ 4 → j + 4 ≤ length xs → k < length xs
    → get_or (put_mid j (j + 4 - j) xs (put_chunk 0 (take (j + 4 - j) (drop j xs)) four)) k 0
    ≡ (if nat_le j k && nat_lt k (j + 4) then get_or four (k - j) 0 else get_or xs k 0)
four_put xs four j k ef within h =
    ap (λ ys. get_or (put_mid j (j + 4 - j) xs ys) k 0)
    (put_chunk_whole (take (j + 4 - j) (drop j xs)) four (part_length xs j (j + 4 - j) (omega (arith, within)) ∙ (let e : j + 4 - j ≡ length four = omega (arith, ef) in e)))
    ∙ grind (arith, places, nat_tests)
