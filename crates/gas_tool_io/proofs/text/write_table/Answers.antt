use Rattle.gas_tool_io.specs.Inner.Sink.{Adds}
use Rattle.gas_tool_io.specs.Table.{table_header, table_line}
use Rattle.gas_tool_io.proofs.Sinks.{Adds-then}
use Rattle.gas_tool_io.proofs.text.write_table.Goals as goal

pub returns : goal.returns
unfolding table_line
returns g c =
    let header : Adds _ _ _ _ table_header = c.push.ensures in
    let all = Adds-then _ _ _ _ _ _ _ _ header c.put_blocks.ensures in
    record { written = c.finish.ensures _ _ (all.adds _ _ (c.new-sink.ensures.empty _)) }
