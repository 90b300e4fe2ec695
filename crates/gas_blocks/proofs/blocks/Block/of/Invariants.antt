use Rattle.std.proofs.Common.{◌≡◌, ◌-◌, ◌*◌}
use Rattle.gas_geom.specs.declared.size.TheConstants.{MOST_SIDE}
use Rattle.gas_blocks.specs.Inner.Tally.{HasRoom}
use Rattle.gas_blocks.proofs.Tallies.{block_from}
use Rattle.gas_blocks.proofs.blocks.Block.of.Given as goal

-- the block with the cells of the rows so far, and their room
abbrev pub invariant-loop-y : goal.invariant-loop-y
invariant-loop-y g l = record {
  cells : l.block ≡ block_from g.G.Gas.rules (g.R.Rows.lattice l.rows) l.width l.fn.row l.top (l.y - l.top) l.fn.col;
  room : HasRoom l.block ((l.y - l.top) * MOST_SIDE);
}
