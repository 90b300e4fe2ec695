use Rattle.std.proofs.Common.{take, []}
use Rattle.gas_pipe_model.specs.Pass.{RunInputModel}
use Rattle.gas_pipe_replay.specs.Inner.Made.{HasMade}
use Rattle.gas_pipe_replay.proofs.local_line.LocalLine.run.Given as goal

abbrev pub invariant-loop-who : goal.invariant-loop-who
invariant-loop-who g l = (input : RunInputModel) →
    HasMade g.G.Gas.rules input l.fn.self [] → HasMade g.G.Gas.rules input l.self (take l.who-index l.turns)
