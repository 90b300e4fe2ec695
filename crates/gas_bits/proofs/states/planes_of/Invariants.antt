use Rattle.std.proofs.Common.{◌≡◌, ℕ, ◌<◌, ◌≤◌, length, get_or}
use Rattle.gas_geom.specs.Gas.{holds}
use Rattle.gas_bits.proofs.states.planes_of.Given as goal

abbrev pub invariant-loop-b : goal.invariant-loop-b
invariant-loop-b l = record {
  long : length l.cells ≡ 64;
  done : (c : ℕ) → c < l.b → get_or l.cells c 0 ≡ get_or l.states c 0;
  rest : (c : ℕ) → l.b ≤ c → c < 64 → get_or l.cells c 0 ≡ 0;
}

abbrev pub invariant-loop-i : goal.invariant-loop-i
invariant-loop-i l = record {
  eight : length l.planes ≡ 8;
  done : (i c : ℕ) → i < l.i → c < 64 → holds (get_or l.planes i 0) c ≡ holds (get_or l.states c 0) i;
}
