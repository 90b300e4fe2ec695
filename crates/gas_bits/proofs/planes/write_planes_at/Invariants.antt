use Rattle.std.proofs.Common.{◌≡◌, ℕ, ◌<◌, ◌/◌, ◌%◌, ◌==◌, ◌&&◌, not, if◌then◌else◌, ltb, get_or}
use Rattle.gas_geom.specs.Gas.{holds}
use Rattle.gas_bits.specs.Planes.{has}
use Rattle.gas_bits.proofs.planes.write_planes_at.Given as goal

abbrev pub invariant-loop-i : goal.invariant-loop-i
invariant-loop-i l = (k y : ℕ) → y / 64 < l.words_each →
    has l.words l.words_each k y
    ≡ (if ltb k l.i && (y / 64 == l.j) then holds (get_or l.planes k 0) (y % 64) && not (holds l.solid (y % 64)) else has l.initial.words l.words_each k y)
