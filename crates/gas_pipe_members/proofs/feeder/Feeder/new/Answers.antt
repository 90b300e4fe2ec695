use Rattle.std.proofs.Common.{rules}
use Rattle.gas_pipe_members.proofs.Queues.{queue_new}
use Rattle.gas_pipe_members.proofs.feeder.Feeder.new.Goals as goal

pub invariant_of-result : goal.invariant_of-result
invariant_of-result g c = record {
  room = search rules;
  put_first = search rules;
  next_within = search rules;
  few_rows = search rules;
  stray_in_pass = search rules;
  places = search rules;
  few_spares = search rules;
  wide_spares = search rules;
  queue = rw c.from.ensures.0
      (queue_new g.G.Gas.rules c.into_rows-channel.result.0 c.into_rows-channel.result.1.items
      (rw (c.into_rows-channel.ensures.channel, c.into_rows-channel.ensures.rows) c.into_rows-channel.ensures.whole));
}
