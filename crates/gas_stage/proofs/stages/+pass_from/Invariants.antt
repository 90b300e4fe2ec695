use Rattle.std.proofs.Common.{length, ◌-◌}
use Rattle.gas_stage.proofs.stages.+pass_from.Given as goal

abbrev pub decreases-pass_from : goal.decreases-pass_from
decreases-pass_from g l = length l.stages.now - l.k
