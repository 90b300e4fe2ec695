use Rattle.std.proofs.Common.{◌≡◌}
use Rattle.tests_whole.proofs.helpers.scatter.Given as goal

-- the channel keeps its size
abbrev pub invariant-loop-x : goal.invariant-loop-x
invariant-loop-x g l = record {
  width : l.lattice.channel.width ≡ l.initial.lattice.channel.width;
  height : l.lattice.channel.height ≡ l.initial.lattice.channel.height;
}
