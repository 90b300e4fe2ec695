use Rattle.std.proofs.Common.{◌≡◌, ℕ, ◌<◌, length, get_or}
use Rattle.gas_geom.specs.Planes.{set_at}
use Rattle.gas_bits.proofs.states.states_of.Given as goal

abbrev pub invariant-loop-b : goal.invariant-loop-b
invariant-loop-b l = record {
  all : length l.states ≡ 64;
  done : (c : ℕ) → c < l.b → get_or l.states c 0 ≡ set_at l.dirs l.planes c;
}
