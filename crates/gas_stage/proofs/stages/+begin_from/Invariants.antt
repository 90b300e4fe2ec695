use Rattle.std.proofs.Common.{length, ◌-◌}
use Rattle.gas_stage.proofs.stages.+begin_from.Given as goal

abbrev pub decreases-begin_from : goal.decreases-begin_from
decreases-begin_from g l = length l.stages.now - l.k
