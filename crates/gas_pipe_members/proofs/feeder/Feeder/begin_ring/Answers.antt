use Rattle.std.proofs.Common.{arith, ◌≡◌, ◌*◌, ap, ◌∙◌, rules}
use Rattle.gas_pipe_members.specs.Feeder.{FeederModel}
use Rattle.gas_pipe_members.proofs.Queues.{queue_begin}
use Rattle.gas_pipe_members.proofs.feeder.Feeder.begin_ring.Goals as goal

pub invariant_of-self : goal.invariant_of-self
invariant_of-self g c =
    let old = c.self.invariant in
    let closed : c.self.inside.to_take ≡ 0 = ap (λ (f : FeederModel). f.to_take) c.self.view_is ∙ c.requires.closed in
    record {
      room = search rules;
      put_first = search rules;
      next_within = omega arith;
      few_rows = old.few_rows;
      stray_in_pass = search rules;
      places = old.places;
      few_spares = omega (arith, old.few_spares, closed);
      wide_spares = old.wide_spares;
      queue =
          queue_begin g.G.Gas.rules c.self.inside.channel c.self.inside.rows.items c.self.inside.to_put c.self.inside.to_take c.self.inside.next
          c.args.passes (c.args.passes * c.from.result) old.queue old.put_first closed (search rules);
    }
