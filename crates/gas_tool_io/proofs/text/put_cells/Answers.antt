use Rattle.std.proofs.Common.{◌++◌, append_assoc}
use Rattle.std.specs.Prelude.{codes}
use Rattle.std.specs.Fmt.{decimal}
use Rattle.gas_tool_io.specs.Inner.Sink.{Adds}
use Rattle.gas_tool_io.specs.Text.{cells_text, line_feed}
use Rattle.gas_tool_io.proofs.Sinks.{Adds-then}
use Rattle.gas_tool_io.proofs.text.put_cells.Goals as goal

pub returns : goal.returns
unfolding cells_text
returns g c =
    let line : Adds (g.W.Write.contents c.args.out.now) (g.W.Write.contents c.put_line.new.out) c.args.sink.now c.put_line.new.sink
    (codes "generation " ++ decimal c.args.generation ++ codes " particles " ++ decimal c.count-particles.result ++ line_feed) =
    simp append_assoc (simp append_assoc at c.put_line.ensures) in
    let header = rw c.count-particles.ensures.count at line in
    Adds-then _ _ _ _ _ _ _ _ header c.put_rows.ensures
