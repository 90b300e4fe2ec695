use Rattle.gas_tool_io.specs.Replay.{belt_line}
use Rattle.gas_tool_io.proofs.Sinks.{Adds-next}
use Rattle.gas_tool_io.proofs.replay.put_belts.Goals as goal

pub loop-belt-preserved : goal.loop-belt-preserved
loop-belt-preserved g c =
    Adds-next _ _ _ _ _ _ (belt_line c.args.replay.now.belts) c.loop-belt.belt c.loop-belt.invariant c.put_belt.ensures
