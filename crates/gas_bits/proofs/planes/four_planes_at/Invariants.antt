use Rattle.std.proofs.Common.{◌≡◌, ◌+◌, ◌*◌, ◌<◌, ℕ, length, get_or, replicate}
use Rattle.gas_bits.proofs.planes.four_planes_at.Given as goal

-- the directions below i are read
abbrev pub invariant-loop-i : goal.invariant-loop-i
invariant-loop-i l = record {
  eight : length l.planes ≡ 8;
  done : (k m : ℕ) → k < l.i → m < 4 → l.j + m < l.words_each → get_or (get_or l.planes k (replicate 4 0)) m 0 ≡ get_or l.words (k * l.words_each + (l.j + m)) 0;
}
