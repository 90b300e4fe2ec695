use Rattle.std.proofs.Common.{◌≡◌, ◌<◌, ◌≤◌, length}
use Rattle.gas_geom.specs.declared.size.TheConstants.{MOST_SIDE}
use Rattle.gas_stage.specs.Inner.Stages.{AreClosed}
use Rattle.gas_stage.proofs.stages.Stages.new.Given as goal

abbrev pub invariant-loop : goal.invariant-loop
invariant-loop g l = record {
  count : length l.stages.items ≡ l.counter;
  closed : AreClosed l.channel l.chirality l.stages.items;
  few_rows : 0 < l.counter → l.channel.height ≤ MOST_SIDE;
}
