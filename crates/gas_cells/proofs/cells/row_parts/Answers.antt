use Rattle.std.proofs.Common.{ap, arith}
use Rattle.gas_geom.specs.Channel.{ChannelModel}
use Rattle.gas_cells.proofs.Pairs.{length-row_cells}
use Rattle.gas_cells.proofs.cells.row_parts.Goals as goal

pub returns-clause-all : goal.returns-clause-all
returns-clause-all g c = λ y.
    let l = c.args.lattice.now in
    omega (
      arith,
      length-row_cells l.channel l.rows y,
      c.div_ceil.ensures,
      c.width.ensures.value,
      c.size.ensures.width,
      ap (λ (a : ChannelModel). a.width) c.channel.ensures.channel,
    )
