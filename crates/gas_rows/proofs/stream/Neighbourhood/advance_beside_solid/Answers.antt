use Rattle.gas_geom.specs.Channel.{ChannelModel}
use Rattle.std.proofs.Common.{ℕ}
use Rattle.gas_rows.specs.Streaming.{AreWordsAbout}
use Rattle.gas_rows.proofs.stream.Neighbourhood.advance_beside_solid.Goals as goal

pub returns-then-odd-clause-advanced : goal.returns-then-odd-clause-advanced
returns-then-odd-clause-advanced g c = λ ch at about.
    c.write_row.ensures.advanced ch at (record {
      wide = about.wide;
      rows = about.rows;
      solid_above = about.solid_above;
      solid_middle = about.solid_middle;
      solid_below = about.solid_below;
    })

pub returns-else-odd-clause-advanced : goal.returns-else-odd-clause-advanced
returns-else-odd-clause-advanced g c = λ ch at about.
    c.write_row-else-odd.ensures.advanced ch at (record {
      wide = about.wide;
      rows = about.rows;
      solid_above = about.solid_above;
      solid_middle = about.solid_middle;
      solid_below = about.solid_below;
    })
