use Rattle.std.proofs.Common.{◌≡◌}
use Rattle.tests_whole.proofs.helpers.random_lattice.Given as goal

abbrev pub invariant-loop-y : goal.invariant-loop-y
invariant-loop-y g l = l.lattice.channel.height ≡ l.y-end
