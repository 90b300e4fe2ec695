use Rattle.std.proofs.Common.{◌≡◌}
use Rattle.gas_geom.specs.Planes.{set_at}
use Rattle.gas_bits.proofs.states.state_at.Given as goal

abbrev pub invariant-loop-i : goal.invariant-loop-i
invariant-loop-i l = l.set ≡ set_at l.i l.planes l.b
