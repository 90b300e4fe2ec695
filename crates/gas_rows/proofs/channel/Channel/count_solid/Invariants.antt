use Rattle.std.proofs.Common.{◌≡◌, ◌≤◌, ◌*◌, Bool, List, take}
use Rattle.std.specs.Prelude.{sum_by, count_by}
use Rattle.gas_rows.proofs.channel.Channel.count_solid.Given as goal

abbrev pub invariant-loop-y : goal.invariant-loop-y
invariant-loop-y l = record {
  so_far : l.total ≡ sum_by (λ (row : List Bool). count_by (λ b. b) row) (take l.y l.self.solid);
  bounded : l.total ≤ 4294967296 * l.y;
}
