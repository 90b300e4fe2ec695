use Rattle.std.proofs.Common.{◌≡◌, ℕ, ◌<◌, length, get_or}
use Rattle.gas_geom.specs.Lattice.{set_of}
use Rattle.gas_layout.specs.Layout.{filled}
use Rattle.gas_layout.proofs.filling.Filling.fill_row.Given as goal

abbrev pub invariant-loop-i : goal.invariant-loop-i
invariant-loop-i g l = (k : ℕ) → k < length l.fn.states → get_or l.states k 0 ≡ set_of l.i (filled l.self.seed l.self.rate (length l.fn.states) k l.y)
