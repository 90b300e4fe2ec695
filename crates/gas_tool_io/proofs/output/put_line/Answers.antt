use Rattle.std.proofs.Common.{◌∙◌}
use Rattle.gas_tool_io.proofs.output.put_line.Goals as goal
use Rattle.gas_tool_io.proofs.Sinks.{line_added}

pub returns-in-Ok : goal.returns-in-Ok
returns-in-Ok g c = line_added _ _ _ _ _ _ _ _ c.new-text.ensures c.in-Ok.ensures.writes (c.as_bytes.ensures.value ∙ c.as_str.ensures.value) c.push.ensures
