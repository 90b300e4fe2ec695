use Rattle.std.proofs.Common.{◌≡◌, ℕ, ◌/◌, ◌<◌, get_or, false}
use Rattle.gas_bits.specs.Words.{bit}
use Rattle.gas_bits.proofs.plane.pack.Given as goal

abbrev pub invariant-loop-j : goal.invariant-loop-j
invariant-loop-j l = (x : ℕ) → x / 64 < l.j → bit l.words x ≡ get_or l.cells x false
