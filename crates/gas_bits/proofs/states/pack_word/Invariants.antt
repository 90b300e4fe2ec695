use Rattle.std.proofs.Common.{◌≡◌, ℕ, ◌<◌, ◌≤◌, length, get_or, false}
use Rattle.gas_geom.specs.Gas.{holds}
use Rattle.gas_bits.proofs.states.pack_word.Given as goal

-- the cells before b are states of direction 0
abbrev pub invariant-loop-b : goal.invariant-loop-b
invariant-loop-b l = record {
  long : length l.states ≡ 64;
  done : (k : ℕ) → k < l.b → holds (get_or l.states k 0) 0 ≡ get_or l.cells k false;
  rest : (k : ℕ) → l.b ≤ k → k < 64 → get_or l.states k 0 ≡ 0;
}
