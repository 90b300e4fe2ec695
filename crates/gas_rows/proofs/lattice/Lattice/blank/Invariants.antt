use Rattle.std.proofs.Common.{◌≡◌, ℕ, replicate}
use Rattle.gas_rows.proofs.lattice.Lattice.blank.Given as goal

abbrev pub invariant-loop : goal.invariant-loop
invariant-loop g l = l.rows.items ≡ replicate l.counter (replicate {A = ℕ} l.size.width 0)
