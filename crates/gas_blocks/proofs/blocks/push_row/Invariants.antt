use Rattle.std.proofs.Common.{◌≡◌, ◌++◌, map}
use Rattle.std.specs.List.{range_with_len}
use Rattle.gas_blocks.specs.Blocks.{block_at}
use Rattle.gas_blocks.proofs.blocks.push_row.Given as goal

-- the blocks of the columns so far were appended
abbrev pub invariant-loop-col : goal.invariant-loop-col
invariant-loop-col g l = l.blocks.items ≡ l.initial.blocks.items ++ map (block_at g.G.Gas.rules l.lattice l.width l.height l.row) (range_with_len 0 l.col)
