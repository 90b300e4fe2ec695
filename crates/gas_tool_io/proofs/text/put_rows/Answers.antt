use Rattle.std.proofs.Common.{◌≡◌, ap, arith, ◌++◌}
use Rattle.std.specs.List.{flat_map, range_with_len}
use Rattle.gas_geom.specs.Channel.{ChannelModel}
use Rattle.gas_cells.specs.Cells.{row_cells}
use Rattle.gas_tool_io.specs.Text.{line_feed}
use Rattle.gas_tool_io.proofs.Sinks.{Adds-next, Adds-same}
use Rattle.gas_tool_io.proofs.text.put_rows.Goals as goal

pub loop-y-preserved : goal.loop-y-preserved
loop-y-preserved g c =
    let l = c.args.lattice.now in
    Adds-next _ _ _ _ _ _ (λ y. row_cells l.channel l.rows y ++ line_feed) c.loop-y.y c.loop-y.invariant c.put_row.ensures

pub returns : goal.returns
returns g c =
    let l = c.args.lattice.now in
    let whole : c.loop-y.y ≡ l.channel.height = omega (arith, c.loop-y-test.false, c.loop-y.auto.y-end, c.height-y-end.ensures.value, ap (λ (a : ChannelModel). a.height) c.channel.ensures.channel) in
    Adds-same _ _ _ _ _ _ (ap (λ n. flat_map (λ y. row_cells l.channel l.rows y ++ line_feed) (range_with_len 0 n)) whole) c.loop-y.invariant
