use Rattle.gas_blocks.specs.Inner.Tally.{row_of_blocks}
use Rattle.gas_blocks.proofs.Ranges.{rows-more}
use Rattle.gas_blocks.proofs.blocks.coarse.Goals as goal

pub loop-row-preserved : goal.loop-row-preserved
loop-row-preserved g c =
    rows-more (row_of_blocks g.G.Gas.rules c.args.lattice.now c.args.width c.args.height) c.loop-row.blocks.items c.push_row.new.blocks.items c.loop-row.row c.loop-row.invariant c.in_ok-push_row.ensures
