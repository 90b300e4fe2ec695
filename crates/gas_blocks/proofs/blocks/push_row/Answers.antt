use Rattle.std.proofs.Common.{◌≡◌, ◌++◌, ap, ◌∙◌, map, arith}
use Rattle.std.specs.Int.{div_ceil}
use Rattle.std.specs.List.{range_with_len}
use Rattle.gas_geom.specs.Channel.{ChannelModel}
use Rattle.gas_blocks.specs.Blocks.{block_at}
use Rattle.gas_blocks.proofs.Ranges.{begins-within, pushed}
use Rattle.gas_blocks.proofs.blocks.push_row.Goals as goal

pub of-requires-clause-left : goal.of-requires-clause-left
of-requires-clause-left g c =
    let columns : c.div_ceil-col-end.result ≡ div_ceil c.args.lattice.now.channel.width c.args.width =
    c.div_ceil-col-end.ensures ∙ ap (λ w. div_ceil w c.args.width) (c.width.ensures.value ∙ c.size.ensures.width ∙ ap (λ (a : ChannelModel). a.width) c.channel.ensures.channel) in
    begins-within c.args.lattice.now.channel.width c.args.width c.loop-col.col c.requires.some_columns (omega (arith, columns, c.loop-col-test.true))

pub loop-col-preserved : goal.loop-col-preserved
loop-col-preserved g c =
    pushed (block_at g.G.Gas.rules c.args.lattice.now c.args.width c.args.height c.args.row) c.args.blocks.now.items c.loop-col.blocks.items c.push.new.self.items c.loop-col.col c.of.result
    c.loop-col.invariant c.in_ok-push.ensures.items c.of.ensures.block

pub returns : goal.returns
returns g c =
    let columns : c.div_ceil-col-end.result ≡ div_ceil c.args.lattice.now.channel.width c.args.width =
    c.div_ceil-col-end.ensures ∙ ap (λ w. div_ceil w c.args.width) (c.width.ensures.value ∙ c.size.ensures.width ∙ ap (λ (a : ChannelModel). a.width) c.channel.ensures.channel) in
    let all : c.loop-col.col ≡ div_ceil c.args.lattice.now.channel.width c.args.width = omega (arith, columns, c.loop-col-test.false) in
    c.loop-col.invariant ∙ ap (λ n. c.args.blocks.now.items ++ map (block_at g.G.Gas.rules c.args.lattice.now c.args.width c.args.height c.args.row) (range_with_len 0 n)) all
