use Rattle.std.proofs.Common.{◌<◌, ◌≤◌, ◌*◌}
use Rattle.example_columns.proofs.fullest.Given as goal

abbrev pub invariant-loop-x : goal.invariant-loop-x
invariant-loop-x g l = record {
  column : l.column < l.lattice.channel.width;
  most : l.most ≤ 8 * l.lattice.channel.height;
}
