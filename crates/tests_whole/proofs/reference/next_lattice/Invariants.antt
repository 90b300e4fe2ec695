use Rattle.std.proofs.Common.{◌≡◌}
use Rattle.tests_whole.proofs.reference.next_lattice.Given as goal

-- the channel stays
abbrev pub invariant-loop-y : goal.invariant-loop-y
invariant-loop-y g l = l.next.channel ≡ l.lattice.channel
