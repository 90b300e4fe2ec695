use Rattle.std.proofs.Common.{arith, rules, ℕ, ◌≡◌, ◌-◌, ◌+◌, ◌%◌, ◌<◌, ◌≤◌, ◌^◌, ◌∙◌, ap, get_or, length, subst, sym}
use Rattle.std.proofs.lemmas.List.Elements.{All-take}
use Rattle.gas_rows.specs.Row.{RowModel}
use Rattle.gas_pipe_members.specs.Feeder.{FeederModel}
use Rattle.gas_pipe_members.specs.Inner.Queue.{IsQueue}
use Rattle.gas_pipe_members.proofs.Queues.{queue_take, queue_closed}
use Rattle.gas_pipe_members.proofs.feeder.Feeder.accept.Given.{Over}
use Rattle.gas_pipe_members.proofs.feeder.Feeder.accept.Goals.{After-pop}
use Rattle.gas_pipe_members.proofs.feeder.Feeder.accept.Goals as goal

owed : (g : Over) (c : After-pop g) → c.self.inside.to_put < c.self.inside.to_take
owed g c = subst (λ (f : FeederModel). f.to_put < f.to_take) (sym c.self.view_is) c.requires.owed

queue : (g : Over) (c : After-pop g) →
    IsQueue g.G.Gas.rules c.self.inside.channel c.push_back_reserved.new.self.items c.self.inside.to_put (c.self.inside.to_take - 1)
    ((c.self.inside.next + 1) % c.height.result)
queue g c =
    let high : c.height.result ≡ c.self.inside.channel.height = c.height.ensures.value ∙ c.size.ensures.height in
    let some : c.self.inside.to_put < c.self.inside.to_take = owed g c in
    rw (c.push_back_reserved.ensures.items, c.empty_solid.ensures.emptied)
    (queue_take g.G.Gas.rules c.self.inside.channel c.self.inside.rows.items c.self.inside.to_put c.self.inside.to_take
    (c.self.inside.to_take - 1) c.self.inside.next ((c.self.inside.next + 1) % c.height.result) c.args.row c.self.invariant.queue (omega arith)
    (ap (λ (h : ℕ). (c.self.inside.next + 1) % h) high) c.self.invariant.next_within
    (c.requires.wide ∙ sym (ap (λ (f : FeederModel). f.channel.width) c.self.view_is)) (λ x. subst (λ (row : RowModel). get_or row x 0 < 2 ^ g.G.Gas.rules.dirs) c.empty_solid.ensures.emptied (c.empty_solid.ensures.states x)))

pub invariant_of-self : goal.invariant_of-self
invariant_of-self g c =
    let old = c.self.invariant in
    let some : c.self.inside.to_put < c.self.inside.to_take = owed g c in
    record {
      room = omega arith;
      put_first = omega arith;
      next_within = search rules;
      few_rows = old.few_rows;
      stray_in_pass = search rules;
      places = search rules;
      few_spares = search rules;
      wide_spares = rw c.pop.ensures.rest (All-take (λ (row : RowModel). length row ≡ c.self.inside.channel.width) _ _ old.wide_spares);
      queue = queue g c;
    }

pub returns-clause-whole : goal.returns-clause-whole
returns-clause-whole g c = λ closed.
    let some : c.self.inside.to_put < c.self.inside.to_take = owed g c in
    let first : c.self.inside.to_put ≤ c.self.inside.to_take - 1 = omega arith in
    queue_closed g.G.Gas.rules c.self.inside.channel c.push_back_reserved.new.self.items c.self.inside.to_put (c.self.inside.to_take - 1)
    ((c.self.inside.next + 1) % c.height.result) (queue g c) first closed
