use Rattle.std.proofs.Common.{◌≡◌, ◌≤◌, ◌*◌, take, List, ℕ}
use Rattle.std.specs.Prelude.{sum_by}
use Rattle.gas_geom.specs.Gas.{particles}
use Rattle.gas_rows.proofs.lattice.Lattice.count.Given as goal

abbrev pub invariant-loop-y : goal.invariant-loop-y
invariant-loop-y g l = record {
  so_far : l.total ≡ sum_by (λ (row : List ℕ). sum_by (particles g.G.Gas.rules) row) (take l.y l.self.rows);
  bounded : l.total ≤ 4294967296 * l.y;
}
