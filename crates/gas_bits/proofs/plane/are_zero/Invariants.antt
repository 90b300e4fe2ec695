use Rattle.std.proofs.Common.{◌≡◌, ◌<◌, ℕ, get_or}
use Rattle.gas_bits.proofs.plane.are_zero.Given as goal

-- if no bit was met, the words so far are 0
abbrev pub invariant-loop-word : goal.invariant-loop-word
invariant-loop-word l = l.any ≡ 0 → (k : ℕ) → k < l.word-index → get_or l.words k 0 ≡ 0
