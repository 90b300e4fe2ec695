use Rattle.gas_tool_io.specs.Inner.Sink.{Adds}
use Rattle.std.specs.List.{flat_map, range_with_len}
use Rattle.gas_tool_io.specs.Replay.{belt_line}
use Rattle.gas_tool_io.proofs.replay.put_belts.Given as goal

-- the lines of the belts so far were added
abbrev pub invariant-loop-belt : goal.invariant-loop-belt
invariant-loop-belt g l =
    Adds (g.W.Write.contents l.initial.out) (g.W.Write.contents l.out) l.initial.sink l.sink
    (flat_map (belt_line l.replay.belts) (range_with_len 0 l.belt))
