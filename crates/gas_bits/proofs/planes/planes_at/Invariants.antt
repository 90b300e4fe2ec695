use Rattle.std.proofs.Common.{◌≡◌, ℕ, ◌+◌, ◌*◌, ◌<◌, ◌≤◌, length, get_or}
use Rattle.gas_bits.proofs.planes.planes_at.Given as goal

abbrev pub invariant-loop-i : goal.invariant-loop-i
invariant-loop-i l = record {
  eight : length l.planes ≡ 8;
  done : (k : ℕ) → k < l.i → get_or l.planes k 0 ≡ get_or l.words (k * l.words_each + l.j) 0;
  rest : (k : ℕ) → l.i ≤ k → get_or l.planes k 0 ≡ 0;
}
