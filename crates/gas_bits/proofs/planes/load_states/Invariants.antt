use Rattle.std.proofs.Common.{◌≡◌, ℕ, ◌*◌, ◌/◌, ◌<◌, get_or}
use Rattle.gas_geom.specs.Gas.{holds}
use Rattle.gas_bits.specs.Planes.{has}
use Rattle.gas_bits.proofs.planes.load_states.Given as goal

abbrev pub invariant-loop-j : goal.invariant-loop-j
invariant-loop-j l = (i y : ℕ) → i < l.dirs → y < 64 * l.j → y / 64 < l.words_each →
    has l.words l.words_each i y ≡ holds (get_or l.states y 0) i
