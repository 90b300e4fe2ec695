-- Sets of directions as numbers: the bits of the set of the directions for which a test holds.
use Rattle.std.proofs.Common.{◌≡◌, ℕ, ◌^◌, ◌<◌, ◌==◌, Bool, if◌then◌else◌, ap, ◌∙◌, sym, refl}
use Rattle.std.proofs.lemmas.Nat.Bits.{bit_at-lt, same_from_bits_below}
use Rattle.std.specs.Int.{bit_at}
use Rattle.gas_geom.specs.Gas.{holds}
use Rattle.gas_geom.specs.Lattice.{set_of}
use Rattle.gas_geom.proofs.Holds.{bit_cases, holds-set_of, set_of-lt, set_of-same}

-- a truth value as a bit
abbrev pub bit_of : Bool → ℕ
bit_of b = if b then 1 else 0

-- the bits of a set
pub bit_of-holds : (s i : ℕ) → bit_of (holds s i) ≡ bit_at s i
bit_of-holds s i = bit_cases (λ x. bit_of (x == 1) ≡ x) refl refl (bit_at s i) (bit_at-lt s i)

pub bit_at-set_of : (n : ℕ) (f : ℕ → Bool) (i : ℕ) → i < n → bit_at (set_of n f) i ≡ bit_of (f i)
bit_at-set_of n f i h = sym (bit_of-holds (set_of n f) i) ∙ ap bit_of (holds-set_of n f i h)

-- a set is the set of the directions that it holds
pub set_of-holds : (n s : ℕ) → s < 2 ^ n → set_of n (holds s) ≡ s
set_of-holds n s h =
    same_from_bits_below n (set_of n (holds s)) s (set_of-lt n (holds s)) h (λ i lt. bit_at-set_of n (holds s) i lt ∙ bit_of-holds s i)

pub set_from : (n s : ℕ) (f : ℕ → Bool) → s < 2 ^ n → ((i : ℕ) → i < n → f i ≡ holds s i) → set_of n f ≡ s
set_from n s f h each = set_of-same n f (holds s) each ∙ set_of-holds n s h
