use Rattle.std.proofs.Common.{◌≡◌, ℕ, get_or, if◌then◌else◌, ltb}
use Rattle.gas_bits.proofs.planes.put_four.Given as goal

-- the words below l are written
abbrev pub invariant-loop-l : goal.invariant-loop-l
invariant-loop-l l = (k : ℕ) → get_or l.words k 0 ≡ (if ltb k l.l then get_or l.lanes k 0 else get_or l.initial.words k 0)
