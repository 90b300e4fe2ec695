use Rattle.std.proofs.Common.{arith, ◌-◌, ◌∙◌, List, subst}
use Rattle.gas_rows.specs.Row.{RowModel}
use Rattle.gas_pipe_members.specs.Inner.Queue.{IsQueue}
use Rattle.gas_pipe_members.proofs.Queues.{queue_put}
use Rattle.gas_pipe_members.proofs.feeder.Feeder.put_next.Goals as goal

pub invariant_of-self-in-Ok : goal.invariant_of-self-in-Ok
invariant_of-self-in-Ok g c =
    let old = c.self.invariant in
    record {
      room = omega (arith, c.in-Some.ensures.len, c.in-Some.ensures.capacity);
      put_first = omega arith;
      next_within = old.next_within;
      few_rows = old.few_rows;
      stray_in_pass = old.stray_in_pass;
      places = c.keep_spare.ensures.capacity ∙ old.places;
      few_spares = omega (arith, c.keep_spare.ensures.few, old.few_spares);
      wide_spares = rw (c.width.ensures.value ∙ c.size.ensures.width) at c.keep_spare.ensures.wide;
      queue =
          queue_put g.G.Gas.rules c.self.inside.channel c.in-Some.row c.pop_front.new.self.items c.self.inside.to_put (c.self.inside.to_put - 1)
          c.self.inside.to_take c.self.inside.next
          (subst (λ (rows : List RowModel). IsQueue g.G.Gas.rules c.self.inside.channel rows c.self.inside.to_put c.self.inside.to_take c.self.inside.next)
          c.in-Some.ensures.items old.queue)
          (omega arith) old.put_first;
    }
