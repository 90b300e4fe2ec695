-- One bit of a word that is shifted or joined with others.
use Rattle.std.proofs.Common.{◌≡◌, ℕ, zero, suc, ◌+◌, ◌-◌, ◌*◌, ◌/◌, ◌%◌, ◌^◌, ◌<◌, ◌≤◌, Bool, false, not, ◌&&◌, ◌||◌, ◌==◌, nat_le, if◌then◌else◌, sym, ap, ap₂, ◌∙◌, arith, inl, inr}
use mathlib.Core.Bool.{or-false}
use lib.Bits.{bit_and, bit_or}
use Rattle.std.proofs.lemmas.Bool.{cases_eq, cases_lt, eq-eqb, ne_eqb}
use Rattle.std.proofs.lemmas.Bool.Decides.{nat_tests}
use Rattle.std.proofs.Math.Dec.{eqb-suc-zero}
use Rattle.gas_geom.specs.Gas.{holds}
use Rattle.gas_geom.proofs.Holds.{holds-and, holds-or, holds-not, holds-above}
use Rattle.gas_bits.proofs.Bits.{holds-shl_high, holds-shl_low, holds-shr}

-- `(word << 1) | (before >> 63)`
pub holds-from_west : (before word b : ℕ) → before < 2 ^ 64 → b < 64 → holds (bit_or (word * 2 ^ 1 % 2 ^ 64) (before / 2 ^ 63)) b
    ≡ (if b == 0 then holds before 63 else holds word (b - 1))
holds-from_west before word zero h lt =
    holds-or (word * 2 ^ 1 % 2 ^ 64) (before / 2 ^ 63) 0 ∙ ap₂ (λ p q. p || q) (holds-shl_low 1 0 word (omega arith) lt) (holds-shr 63 0 before)
holds-from_west before word (suc b) h lt =
    holds-or (word * 2 ^ 1 % 2 ^ 64) (before / 2 ^ 63) (suc b)
    ∙ ap₂ (λ p q. p || q) (holds-shl_high 1 (suc b) word (omega arith) lt)
    (holds-shr 63 (suc b) before ∙ holds-above before 64 (63 + suc b) h (omega arith))
    ∙ or-false (holds word (suc b - 1))
    ∙ sym (ap (λ t. if t then holds before 63 else holds word (suc b - 1)) (eqb-suc-zero b))

-- `y << (63 - last)`
pub holds-to_top : (y last : ℕ) → last < 64 → holds (y * 2 ^ (63 - last) % 2 ^ 64) 63 ≡ holds y last
holds-to_top y last h =
    holds-shl_high (63 - last) 63 y (omega arith) (omega arith) ∙ ap (holds y) (let e : 63 - (63 - last) ≡ last = omega arith in e)

-- `(cut >> 1) | (after << last)`, where `cut` is the word up to `last`
pub holds-from_east : (word cut after last b : ℕ) → last < 64 → b ≤ last → cut < 2 ^ 64
    → ((k : ℕ) → k < 64 → holds cut k ≡ (nat_le k last && holds word k))
    → holds (bit_or (cut / 2 ^ 1) (after * 2 ^ last % 2 ^ 64)) b ≡ (if b == last then holds after 0 else holds word (b + 1))
holds-from_east word cut after last b h le fits is =
    holds-or (cut / 2 ^ 1) (after * 2 ^ last % 2 ^ 64) b
    ∙ ap (λ p. p || holds (after * 2 ^ last % 2 ^ 64) b) (holds-shr 1 b cut ∙ ap (holds cut) (let e : 1 + b ≡ b + 1 = omega arith in e) ∙ next)
    ∙ elim (cases_eq b last) [
      | inl e ↦ ap₂ (λ t p. (not t && holds word (b + 1)) || p) (eq-eqb b last e) (holds-shl_high last b after (omega arith) (omega arith))
          ∙ ap (holds after) (let z : b - last ≡ 0 = omega arith in z)
          ∙ sym (ap (λ t. if t then holds after 0 else holds word (b + 1)) (eq-eqb b last e))
      | inr ne ↦ ap₂ (λ t p. (not t && holds word (b + 1)) || p) (ne_eqb b last ne) (holds-shl_low last b after (omega arith) (omega arith))
          ∙ or-false (holds word (b + 1))
          ∙ sym (ap (λ t. if t then holds after 0 else holds word (b + 1)) (ne_eqb b last ne))
    ]
  where
    next : holds cut (b + 1) ≡ (not (b == last) && holds word (b + 1))
    next = elim (cases_lt (b + 1) 64) [
      | inl inside ↦ is (b + 1) inside ∙ ap (λ t. t && holds word (b + 1)) (let e : nat_le (b + 1) last ≡ not (b == last) = grind (arith, nat_tests) in e)
      | inr above ↦ holds-above cut 64 (b + 1) fits above ∙ sym (ap (λ t. not t && holds word (b + 1)) (eq-eqb b last (omega arith)))
    ]

-- whether a cell holds a direction after streaming, from whether the neighbour held it, whether the neighbour is solid, whether the
-- cell held the opposite direction, and whether it is solid
abbrev pub streamed_bit : Bool → Bool → Bool → Bool → Bool
streamed_bit came met back own = if own then false else if met then back else came

-- `((came & !met) | (met & back)) & !own`
pub holds-streamed : (came met back own b : ℕ) → met < 2 ^ 64 → own < 2 ^ 64 → b < 64
    → holds (bit_and (bit_or (bit_and came (2 ^ 64 - 1 - met)) (bit_and met back)) (2 ^ 64 - 1 - own)) b
    ≡ streamed_bit (holds came b) (holds met b) (holds back b) (holds own b)
holds-streamed came met back own b hm ho h =
    holds-and (bit_or (bit_and came (2 ^ 64 - 1 - met)) (bit_and met back)) (2 ^ 64 - 1 - own) b
    ∙ ap₂ (λ p q. p && q)
    (holds-or (bit_and came (2 ^ 64 - 1 - met)) (bit_and met back) b
    ∙ ap₂ (λ p q. p || q) (holds-and came (2 ^ 64 - 1 - met) b ∙ ap (λ q. holds came b && q) (holds-not met b hm h)) (holds-and met back b))
    (holds-not own b ho h)
    ∙ cases (holds came b) (holds met b) (holds back b) (holds own b)
  where
    cases : (p q r s : Bool) → (((p && not q) || (q && r)) && not s) ≡ streamed_bit p q r s
    cases p q r s = grind arith
