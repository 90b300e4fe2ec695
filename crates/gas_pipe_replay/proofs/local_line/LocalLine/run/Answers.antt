use Rattle.std.proofs.Common.{take}
use Rattle.std.proofs.lemmas.List.{take_more}
use Rattle.gas_pipe_replay.proofs.local_line.LocalLine.run.Goals as goal

pub loop-who-preserved : goal.loop-who-preserved
loop-who-preserved g c input begun =
    rw (take_more c.args.turns.now c.loop-who.who-index 0 c.loop-who-test.true)
    (c.turn.ensures input (take c.loop-who.who-index c.args.turns.now) (c.loop-who.invariant input begun))
