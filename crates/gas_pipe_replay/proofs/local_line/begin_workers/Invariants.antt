use Rattle.gas_pipe_replay.specs.Inner.LocalLine.{HaveBegun}
use Rattle.gas_pipe_replay.proofs.local_line.begin_workers.Given as goal

abbrev pub invariant-loop-k : goal.invariant-loop-k
invariant-loop-k g l = HaveBegun g.G.Gas.rules l.fn.input l.workers.items l.k
