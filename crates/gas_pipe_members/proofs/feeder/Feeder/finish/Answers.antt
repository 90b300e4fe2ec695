use Rattle.std.proofs.Common.{ap, ◌∙◌}
use Rattle.gas_pipe_members.specs.Feeder.{FeederModel}
use Rattle.gas_pipe_members.proofs.Queues.{queue_closed}
use Rattle.gas_pipe_members.proofs.feeder.Feeder.finish.Goals as goal

pub from_rows-requires : goal.from_rows-requires
from_rows-requires g c = record {
  lattice =
      let old = c.self.invariant in
      rw c.from.ensures.0
      (queue_closed g.G.Gas.rules c.self.inside.channel c.self.inside.rows.items c.self.inside.to_put c.self.inside.to_take c.self.inside.next
      old.queue old.put_first (ap (λ (f : FeederModel). f.to_take) c.self.view_is ∙ c.requires.closed));
}
