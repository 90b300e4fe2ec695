use Rattle.std.proofs.Common.{◌≡◌, ◌*◌, ◌/◌, ◌%◌}
use Rattle.gas_blocks.specs.Blocks.{block_at}
use Rattle.gas_export.specs.Planes.{lattice_in}
use Rattle.gas_export.specs.Sums.{sums_of}
use Rattle.gas_export.proofs.Written.{AreDone}
use Rattle.gas_export.proofs.sums.sum_blocks.Given as goal

-- the sums of the blocks before k are written
abbrev pub invariant-loop-k : goal.invariant-loop-k
invariant-loop-k g l =
    AreDone (λ j four. four ≡ sums_of (block_at g.G.Gas.rules (lattice_in g.G.Gas.rules l.fn.size.width l.fn.size.height l.solid l.states) l.width l.height (j / l.columns) (j % l.columns)))
    4 (l.rows * l.columns) l.k l.initial.sums l.sums
