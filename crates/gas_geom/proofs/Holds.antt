-- Sets of directions and words of cells: which bits the operations on numbers leave set.
use Rattle.std.proofs.Common.{◌≡◌, ◌≢◌, ℕ, zero, suc, ◌+◌, ◌-◌, ◌*◌, ◌%◌, ◌^◌, ◌<◌, ◌≤◌, min, max, Bool, true, false, not, ◌&&◌, ◌||◌, if◌then◌else◌, ap, ap₂, ◌∙◌, sym, refl, arith, ⊎_elim, pow-suc, w64}
use Rattle.std.specs.Prelude.{◌==◌}
use Rattle.std.proofs.lemmas.Bool.{cases_eq}
use Rattle.std.proofs.lemmas.Nat.Bits.{bit_at_and, bit_at_or, bit_at_xor, bit_at_not, bit_at-zero, bit_at-lt, bit_at_above, bit_at_cat_low, bit_at_cat_high, bit_at_lowest}
use Rattle.std.specs.Int.{bit_at}
use Rattle.std.specs.Int.Bits.{bit_and, bit_or, bit_xor}
use Rattle.gas_geom.specs.Gas.{holds}
use Rattle.gas_geom.specs.Lattice.{set_of}
use Rattle.gas_geom.specs.Planes.{differ}

-- what holds at 0 and at 1 holds at each bit
pub bit_cases : (P : ℕ → Type 0) → P 0 → P 1 → (x : ℕ) → x < 2 → P x
bit_cases P p q zero h = p
bit_cases P p q (suc zero) h = q
bit_cases P p q (suc (suc r)) h = absurd (omega arith)

two_bits : (P : ℕ → ℕ → Type 0) → P 0 0 → P 0 1 → P 1 0 → P 1 1 → (a b i : ℕ) → P (bit_at a i) (bit_at b i)
two_bits P p q r s a b i =
    bit_cases (λ x. P x (bit_at b i)) (bit_cases (P 0) p q (bit_at b i) (bit_at-lt b i)) (bit_cases (P 1) r s (bit_at b i) (bit_at-lt b i)) (bit_at a i) (bit_at-lt a i)

pub holds-zero : (i : ℕ) → holds 0 i ≡ false
holds-zero i = ap (λ x. x == 1) (bit_at-zero i)

pub holds-and : (a b i : ℕ) → holds (bit_and a b) i ≡ (holds a i && holds b i)
holds-and a b i = ap (λ x. x == 1) (bit_at_and a b i) ∙ two_bits (λ x y. (min x y == 1) ≡ ((x == 1) && (y == 1))) refl refl refl refl a b i

pub holds-or : (a b i : ℕ) → holds (bit_or a b) i ≡ (holds a i || holds b i)
holds-or a b i = ap (λ x. x == 1) (bit_at_or a b i) ∙ two_bits (λ x y. (max x y == 1) ≡ ((x == 1) || (y == 1))) refl refl refl refl a b i

pub holds-xor : (a b i : ℕ) → holds (bit_xor a b) i ≡ differ (holds a i) (holds b i)
holds-xor a b i = ap (λ x. x == 1) (bit_at_xor a b i) ∙ two_bits (λ x y. ((x + y) % 2 == 1) ≡ differ (x == 1) (y == 1)) refl refl refl refl a b i

pub holds-not : (a i : ℕ) → a < 2 ^ 64 → i < 64 → holds (2 ^ 64 - 1 - a) i ≡ not (holds a i)
holds-not a i ha hi = ap (λ x. x == 1) (bit_at_not w64 a i ha hi) ∙ bit_cases (λ x. ((1 - x) == 1) ≡ not (x == 1)) refl refl (bit_at a i) (bit_at-lt a i)

-- a number below 2 ^ k has no bit from k on
pub holds-above : (s k i : ℕ) → s < 2 ^ k → k ≤ i → holds s i ≡ false
holds-above s k i h le = ap (λ x. x == 1) (bit_at_above s k i h le)

-- ---- the set of the directions for which f holds
-- one direction more, or not
pub one_more : (b : Bool) (a p q : ℕ) → a < p → q ≡ p * 2 → a + (if b then p else 0) < q
one_more true a p q lt e = omega arith
one_more false a p q lt e = omega arith

pub set_of-lt : (n : ℕ) (f : ℕ → Bool) → set_of n f < 2 ^ n
set_of-lt zero f = omega arith
set_of-lt (suc n) f = one_more (f n) (set_of n f) (2 ^ n) (2 ^ suc n) (set_of-lt n f) (pow-suc 2 n)

-- the highest bit on top of a smaller number, and the bits below it
on_top : (b : Bool) (a n : ℕ) → a < 2 ^ n → holds (a + (if b then 2 ^ n else 0)) n ≡ b
on_top true a n lt =
    ap (λ v. holds v n) (let e : a + 2 ^ n ≡ 1 * 2 ^ n + a = omega arith in e)
    ∙ ap (λ x. x == 1) (bit_at_cat_high 1 n a n lt (omega arith) ∙ ap (bit_at 1) (let z : n - n ≡ 0 = omega arith in z) ∙ bit_at_lowest 1)
on_top false a n lt = ap (λ v. holds v n) (let e : a + 0 ≡ a = omega arith in e) ∙ holds-above a n n lt (omega arith)

below_top : (b : Bool) (a n i : ℕ) → i < n → holds (a + (if b then 2 ^ n else 0)) i ≡ holds a i
below_top true a n i lt =
    ap (λ v. holds v i) (let e : a + 2 ^ n ≡ 1 * 2 ^ n + a = omega arith in e) ∙ ap (λ x. x == 1) (bit_at_cat_low 1 n a i lt)
below_top false a n i lt = ap (λ v. holds v i) (let e : a + 0 ≡ a = omega arith in e)

pub holds-set_of : (n : ℕ) (f : ℕ → Bool) (i : ℕ) → i < n → holds (set_of n f) i ≡ f i
holds-set_of zero f i h = absurd (omega arith)
holds-set_of (suc n) f i h =
    ⊎_elim
    (λ (e : i ≡ n). ap (holds (set_of (suc n) f)) e ∙ on_top (f n) (set_of n f) n (set_of-lt n f) ∙ ap f (sym e))
    (λ (ne : i ≢ n). let lt : i < n = omega arith in below_top (f n) (set_of n f) n i lt ∙ holds-set_of n f i lt)
    (cases_eq i n)

pub set_of-same : (n : ℕ) (f g : ℕ → Bool) → ((i : ℕ) → i < n → f i ≡ g i) → set_of n f ≡ set_of n g
set_of-same zero f g same = refl
set_of-same (suc n) f g same =
    ap₂ (λ s b. s + (if b then 2 ^ n else 0)) (set_of-same n f g (λ i h. same i (omega arith))) (same n (omega arith))
