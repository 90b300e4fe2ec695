use Rattle.std.proofs.Common.{◌≡◌, ℕ, ◌<◌, ◌/◌, ◌&&◌, not, ltb}
use Rattle.gas_bits.specs.Planes.{has}
use Rattle.gas_bits.proofs.planes.clear_planes_past.Given as goal

abbrev pub invariant-loop-i : goal.invariant-loop-i
invariant-loop-i l = (k y : ℕ) → y / 64 < l.words_each →
    has l.words l.words_each k y ≡ (not (ltb k l.i && not (ltb y l.width)) && has l.initial.words l.words_each k y)
