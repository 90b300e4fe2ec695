use Rattle.std.proofs.Common.{arith}
use Rattle.gas_tool_io.proofs.Sinks.{Appends-part}
use Rattle.gas_tool_io.proofs.output.send.Goals as goal

pub loop-sent-preserved : goal.loop-sent-preserved
loop-sent-preserved g c = record {
  within = omega (arith, c.in-Ok.ensures.bound);
  out = Appends-part _ _ _ _ _ _ c.loop-sent.invariant.out c.in-Ok.ensures.bytes;
}
