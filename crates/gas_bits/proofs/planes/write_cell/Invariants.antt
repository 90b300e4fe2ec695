use Rattle.std.proofs.Common.{◌≡◌, ℕ, ◌<◌, ◌/◌, ◌==◌, ◌&&◌, if◌then◌else◌, ltb}
use Rattle.gas_geom.specs.Gas.{holds}
use Rattle.gas_bits.specs.Planes.{has}
use Rattle.gas_bits.proofs.planes.write_cell.Given as goal

abbrev pub invariant-loop-i : goal.invariant-loop-i
invariant-loop-i l = (k y : ℕ) → y / 64 < l.words_each →
    has l.words l.words_each k y ≡ (if ltb k l.i && (y == l.x) then holds l.set k else has l.initial.words l.words_each k y)
