use Rattle.std.proofs.Common.{◌≡◌}
use Rattle.std.specs.List.{range_with_len, flat_map}
use Rattle.gas_blocks.specs.Inner.Tally.{row_of_blocks}
use Rattle.gas_blocks.proofs.blocks.coarse.Given as goal

-- the rows of the blocks so far
abbrev pub invariant-loop-row : goal.invariant-loop-row
invariant-loop-row g l = l.blocks.items ≡ flat_map (row_of_blocks g.G.Gas.rules l.lattice l.width l.height) (range_with_len 0 l.row)
