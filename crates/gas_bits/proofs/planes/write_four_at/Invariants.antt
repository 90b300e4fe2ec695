use Rattle.std.proofs.Common.{◌≡◌, ℕ, ◌+◌, ◌-◌, ◌*◌, ◌<◌, ◌/◌, ◌%◌, ◌&&◌, not, if◌then◌else◌, ltb, get_or}
use Rattle.std.specs.Prelude.{nat_le, nat_lt}
use Rattle.gas_geom.specs.Gas.{holds}
use Rattle.gas_bits.specs.Planes.{has, four_has}
use Rattle.gas_bits.proofs.planes.write_four_at.Given as goal

-- the directions below i are written, the others as they were
abbrev pub invariant-loop-i : goal.invariant-loop-i
invariant-loop-i l = (k y : ℕ) → y / 64 < l.words_each → has l.words l.words_each k y
    ≡ (if ltb k l.i && (nat_le (64 * l.j) y && nat_lt y (64 * l.j + 256))
    then four_has l.planes k (y - 64 * l.j) && not (holds (get_or l.solid ((y - 64 * l.j) / 64) 0) (y % 64))
    else has l.initial.words l.words_each k y)
