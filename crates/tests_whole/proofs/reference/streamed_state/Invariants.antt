use Rattle.std.proofs.Common.{◌<◌, ◌^◌}
use Rattle.tests_whole.proofs.reference.streamed_state.Given as goal

-- the set has only directions before i
abbrev pub invariant-loop-i : goal.invariant-loop-i
invariant-loop-i g l = l.state < 2 ^ l.i
