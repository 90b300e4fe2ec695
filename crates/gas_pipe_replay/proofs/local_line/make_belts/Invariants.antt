use Rattle.gas_pipe_replay.specs.Inner.LocalLine.{AreUnused}
use Rattle.gas_pipe_replay.proofs.local_line.make_belts.Given as goal

abbrev pub invariant-loop : goal.invariant-loop
invariant-loop g l = AreUnused l.fn.plan.capacity l.belts.items l.counter
