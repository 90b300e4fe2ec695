use Rattle.std.proofs.Common.{false, slice_index_or, [], ap, ◌∙◌}
use Rattle.gas_geom.specs.Channel.{ChannelModel}
use Rattle.gas_bits.specs.Words.{words_in}
use Rattle.gas_blocks.proofs.rows.LatticeRows.solid.Goals as goal

pub returns-clause-long : goal.returns-clause-long
returns-clause-long g c = c.words.ensures.long ∙ ap words_in (c.mask.ensures.wide ∙ ap (λ (a : ChannelModel). a.width) c.channel.ensures.channel)

pub returns-clause-cells : goal.returns-clause-cells
returns-clause-cells g c = λ x lt.
    c.words.ensures.bits x ∙ ap (λ m. slice_index_or m x false) (c.mask.ensures.row ∙ ap (λ (a : ChannelModel). slice_index_or a.solid c.args.y []) c.channel.ensures.channel)
