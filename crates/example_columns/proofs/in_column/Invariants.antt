use Rattle.std.proofs.Common.{◌≤◌, ◌*◌}
use Rattle.example_columns.proofs.in_column.Given as goal

abbrev pub invariant-loop-y : goal.invariant-loop-y
invariant-loop-y g l = l.total ≤ 8 * l.y
