use Rattle.gas_tool_io.proofs.Sinks.{Adds-then}
use Rattle.gas_tool_io.proofs.replay.write_replay.Goals as goal

pub returns : goal.returns
returns g c =
    let done = c.put_done.ensures c.args.replay.now.lattice c.done.ensures.value in
    let above = Adds-then _ _ _ _ _ _ _ _ done c.put_belts.ensures in
    let all = Adds-then _ _ _ _ _ _ _ _ above c.put_end.ensures in
    record { written = c.finish.ensures _ _ (all.adds _ _ (c.new-sink.ensures.empty _)) }
