use Rattle.std.proofs.Common.{◌≡◌, ℕ, true, arith}
use Rattle.gas_geom.proofs.examples.no_symmetries.Goals as goal

unequal : (a b : ℕ) → a ≡ b → (a ≡ b → ⊥) → ⊥
unequal a b e differ = differ e

pub returns-clause-mirror_for_turn : goal.returns-clause-mirror_for_turn
returns-clause-mirror_for_turn c s = unequal 0x12 0x24 (s.of_rotated 0x09 true (omega arith)) (λ e. absurd (omega arith))

pub returns-clause-turn_for_mirror : goal.returns-clause-turn_for_mirror
returns-clause-turn_for_mirror c s = unequal 0x09 0x24 (s.of_mirrored 0x09 true (omega arith)) (λ e. absurd (omega arith))

pub returns-clause-mirror_for_opposite : goal.returns-clause-mirror_for_opposite
returns-clause-mirror_for_opposite c s = unequal 0x12 0x24 (s.of_turned 0x09 true (omega arith)) (λ e. absurd (omega arith))

pub returns-clause-nothing_left : goal.returns-clause-nothing_left
returns-clause-nothing_left c s = unequal 0 0x09 (s.undone 0x09 true (omega arith)) (λ e. absurd (omega arith))
