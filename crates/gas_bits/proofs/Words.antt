-- What the words of a plane say of its cells, before and after writes of words.
use Rattle.std.proofs.Common.{◌≡◌, ℕ, ◌+◌, ◌*◌, ◌/◌, ◌%◌, ◌<◌, ◌≤◌, Bool, false, ◌&&◌, ◌||◌, if◌then◌else◌, List, length, get_or, set, length-set, replicate, refl, sym, ap, ◌∙◌, arith, bit_or}
use Rattle.std.proofs.lemmas.Nat.Bits.{bit_at-lt, bit_at-zero, same_from_bits}
use Rattle.std.specs.Prelude.{◌==◌, nat_lt}
use Rattle.std.specs.List.{All}
use Rattle.std.proofs.lemmas.List.Elements.{All-get_or}
use Rattle.std.proofs.lemmas.Bool.Decides.{nat_tests}
use Rattle.gas_geom.specs.Gas.{holds}
use Rattle.gas_geom.proofs.Holds.{holds-zero, holds-or}
use Rattle.gas_bits.specs.Words.{bit}
use Rattle.std.proofs.lemmas.List.{places}
use Rattle.std.proofs.lemmas.Grind.{get_or-set_at}

-- ---- words
pub bit-is : (words : List ℕ) (x : ℕ) → bit words x ≡ holds (get_or words (x / 64) 0) (x % 64)
unfolding bit
bit-is words x = refl

pub bit-past : (words : List ℕ) (x : ℕ) → length words ≤ x / 64 → bit words x ≡ false
unfolding bit
bit-past words x past = grind (arith, places, holds-zero)

pub bit-zeros : (n x : ℕ) → bit (replicate n 0) x ≡ false
bit-zeros n x = grind (arith, places, bit-is, bit-past, holds-zero)

pub bit-replicate : (n w x : ℕ) → x / 64 < n → bit (replicate n w) x ≡ holds w (x % 64)
bit-replicate n w x h = grind (arith, places, bit-is)

-- bit b of word j
pub bit-at : (words : List ℕ) (j b : ℕ) → b < 64 → bit words (64 * j + b) ≡ holds (get_or words j 0) b
bit-at words j b h = grind (arith, bit-is)

-- a word that was read
pub read_at : (words : List ℕ) (k w : ℕ) → k < length words → w ≡ get_or words k w → w ≡ get_or words k 0
read_at words k w h e = grind (arith, places)

-- one word was changed
pub bit-set : (words : List ℕ) (j v x : ℕ) → j < length words →
    bit (set words j v) x ≡ (if x / 64 == j then holds v (x % 64) else bit words x)
unfolding bit
bit-set words j v x within = grind (arith, nat_tests, places, get_or-set_at)

-- the bits of words after some of them were written
pub ruleset word_writes = (nat_tests, bit-set, length-set)

-- what holds before the width
pub cut-where : (x width : ℕ) (a b : Bool) → (x < width → a ≡ b) → (nat_lt x width && a) ≡ (nat_lt x width && b)
cut-where x width a b same = grind (arith, nat_tests)

-- where all words are zero, no bit is set
pub bit-all_zero : (words : List ℕ) → All (λ w. w ≡ 0) words → (x : ℕ) → bit words x ≡ false
bit-all_zero words zero x = grind (arith, bit-is, bit-past, All-get_or, holds-zero)

-- a number without a bit is 0
zero-from : (s : ℕ) → ((i : ℕ) → holds s i ≡ false) → s ≡ 0
zero-from s none =
    same_from_bits s 0 (λ i. let e = none i in let small = bit_at-lt s i in let z = bit_at-zero i in grind (arith, nat_tests))

-- two words of which neither has a bit
pub or-zero : (a b : ℕ) → bit_or a b ≡ 0 → (a ≡ 0) × (b ≡ 0)
or-zero a b e =
    let neither : (i : ℕ) → (holds a i || holds b i) ≡ false = λ i. sym (holds-or a b i) ∙ ap (λ w. holds w i) e ∙ holds-zero i in
    (zero-from a (λ i. let n = neither i in grind arith), zero-from b (λ i. let n = neither i in grind arith))
