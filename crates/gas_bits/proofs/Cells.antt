-- What the words of all directions say of a cell, before and after a write of one word.
use Rattle.std.proofs.Common.{◌≡◌, ℕ, ◌+◌, ◌*◌, ◌/◌, ◌%◌, ◌^◌, ◌<◌, ◌≤◌, false, ◌&&◌, ◌==◌, if◌then◌else◌, List, length, get_or, set, replicate, ap, arith, take, drop}
use Rattle.std.proofs.lemmas.Bool.Decides.{nat_tests}
use Rattle.std.proofs.lemmas.List.{places}
use Rattle.std.proofs.lemmas.Grind.{get_or-set_at}
use Rattle.std.proofs.lemmas.Nat.{one_shl}
use Rattle.std.proofs.Math.Pow.{pow_mono}
use Rattle.std.proofs.Math.Nat.{mul-le-mul_right, pow-suc}
use Rattle.gas_geom.specs.Gas.{holds}
use Rattle.gas_bits.specs.Planes.{has, state}
use Rattle.gas_geom.proofs.Sets.{set_from}
use Rattle.gas_geom.proofs.Holds.{holds-zero, set_of-lt, holds-set_of, set_of-same}

-- ---- a cell
pub state-lt : (words : List ℕ) (n d x : ℕ) → state words n d x < 2 ^ d
unfolding state
state-lt words n d x = set_of-lt d (λ i. has words n i x)

pub holds-state : (words : List ℕ) (n d x i : ℕ) → i < d → holds (state words n d x) i ≡ has words n i x
unfolding state
holds-state words n d x i h = holds-set_of d (λ j. has words n j x) i h

pub state-from : (words : List ℕ) (n d x s : ℕ) → s < 2 ^ d → ((i : ℕ) → i < d → has words n i x ≡ holds s i) →
    state words n d x ≡ s
unfolding state
state-from words n d x s h each = set_from d s (λ i. has words n i x) h each

pub state-same : (words other : List ℕ) (n d x : ℕ) → ((i : ℕ) → i < d → has words n i x ≡ has other n i x) →
    state words n d x ≡ state other n d x
unfolding state
state-same words other n d x each = set_of-same d (λ i. has words n i x) (λ i. has other n i x) each

-- a set of the directions below i has room for direction i in a byte
pub room : (s i : ℕ) → s < 2 ^ i → i < 8 → s + 1 * 2 ^ i % 2 ^ 8 < 2 ^ 8
room s i h lt = grind (arith, one_shl, pow_mono, pow-suc)

-- ---- a write
-- the place of a word says the direction and the place within it
pub place_apart : (n i j a b : ℕ) → a < n → b < n → i < j → i * n + a < j * n + b
place_apart n i j a b ha hb lt = let le : (i + 1) * n ≤ j * n = mul-le-mul_right n (omega arith) in omega arith

pub place_in : (n d i a : ℕ) → i < d → a < n → i * n + a < d * n
place_in n d i a hi ha = grind (arith, mul-le-mul_right)

pub has-set : (words : List ℕ) (n i a v k y : ℕ) → i * n + a < length words → a < n → y / 64 < n →
    has (set words (i * n + a) v) n k y ≡ (if (k == i) && (y / 64 == a) then holds v (y % 64) else has words n k y)
unfolding has
has-set words n i a v k y within ha hy =
    let before = place_apart n k i (y / 64) a hy ha in
    let after = place_apart n i k a (y / 64) ha hy in
    let same : k ≡ i → k * n ≡ i * n = ap (λ m. m * n) in
    grind (arith, nat_tests, places, get_or-set_at)

pub has-blank : (k n i x : ℕ) → has (replicate k 0) n i x ≡ false
unfolding has
has-blank k n i x = grind (arith, places, holds-zero)

-- word by word
pub has_word : (words : List ℕ) (n i j b : ℕ) → b < 64 → has words n i (64 * j + b) ≡ holds (get_or words (i * n + j) 0) b
unfolding has
has_word words n i j b h = grind arith

-- one direction
pub whole_plane : (n d i : ℕ) → i < d → i * n + n ≤ d * n
whole_plane n d i h = grind arith

pub part_get : (xs : List ℕ) (a n j : ℕ) → j < n → a + n ≤ length xs → get_or (take n (drop a xs)) j 0 ≡ get_or xs (a + j) 0
part_get xs a n j h le = grind (arith, places)

pub part_length : (xs : List ℕ) (a n : ℕ) → a + n ≤ length xs → length (take n (drop a xs)) ≡ n
part_length xs a n le = grind (arith, places)
