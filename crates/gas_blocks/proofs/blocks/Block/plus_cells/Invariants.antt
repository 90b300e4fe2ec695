use Rattle.std.proofs.Common.{◌≡◌, ◌-◌, length}
use Rattle.std.specs.List.{range_with_len}
use Rattle.gas_bits.specs.Words.{bit}
use Rattle.gas_bits.specs.Planes.{state}
use Rattle.gas_blocks.proofs.Counts.{counted}
use Rattle.gas_blocks.proofs.blocks.Block.plus_cells.Given as goal

-- the block with the particles of the directions so far
abbrev pub invariant-loop-i : goal.invariant-loop-i
invariant-loop-i g l =
    l.block ≡ counted g.G.Gas.rules (bit l.solid) (state l.states (length l.solid) g.G.Gas.rules.dirs) l.fn.self (range_with_len l.fn.from (l.fn.to - l.fn.from)) l.i
