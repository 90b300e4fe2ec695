use Rattle.std.proofs.Common.{◌≡◌, ◌++◌, append_assoc, rules}
use Rattle.std.specs.Prelude.{codes}
use Rattle.std.specs.Fmt.{decimal}
use Rattle.gas_geom.specs.Channel.{solid_cells}
use Rattle.gas_tool_io.specs.Inner.Sink.{Adds}
use Rattle.gas_tool_io.specs.Text.{check_text, line_feed}
use Rattle.gas_tool_io.proofs.text.write_summary.Goals as goal

pub returns : goal.returns
unfolding check_text
returns g c =
    let text : Adds (g.W.Write.contents c.args.out.now) (g.W.Write.contents c.put_line.new.out) c.new-sink.result c.put_line.new.sink
    (codes "gas " ++ c.args.gas.now ++ codes " width " ++ decimal c.width-width.result ++ codes " height " ++ decimal c.height-height.result
    ++ codes " solid " ++ decimal c.count_solid-solid.result ++ codes " particles " ++ decimal c.count-particles.result ++ line_feed) =
    simp append_assoc (simp append_assoc at c.put_line.ensures) in
    let width : c.width-width.result ≡ c.args.lattice.now.channel.width = search rules in
    let height : c.height-height.result ≡ c.args.lattice.now.channel.height = search rules in
    let solid : c.count_solid-solid.result ≡ solid_cells c.args.lattice.now.channel = search rules in
    let line = rw (width, height, solid, c.count-particles.ensures.count) at text in
    record { written = c.finish.ensures _ _ (line.adds _ _ (c.new-sink.ensures.empty _)) }
