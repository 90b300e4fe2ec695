use Rattle.std.proofs.Common.{◌++◌, ◌∷◌, [], ◌<◌, ◌∙◌, ap, sym, subst, refl, arith}
use Rattle.gas_geom.specs.Lattice.{IsLattice}
use Rattle.gas_pipe_members.specs.Feeder.{FeederModel, MayHaveFed}
use Rattle.gas_pipe_members.proofs.Feeds.{fed_take}
use Rattle.gas_pipe_members.proofs.Queues.{queue_closed}
use Rattle.gas_pipe_members.proofs.feeder.Feeder.turn.Goals as goal

pub returns-clause-turned : goal.returns-clause-turned
returns-clause-turned g c =
    let rests = c.if-put_next.ensures.unchanged refl in
    let inside : c.self-2.inside.to_put < c.self-2.inside.to_take = omega (arith, c.self-2.invariant.put_first, c.if-self-2.false) in
    let some = subst (λ (f : FeederModel). f.to_put < f.to_take) c.self-2.view_is inside in (
      c.in-Some.row,
      (
        c.accept-spare.result,
        record { between = c.try_take.new.self; took = c.in-Some.ensures.take; got = c.give_spare.ensures },
        rw rests.1 at c.accept-spare.ensures.given,
      ),
      rests.0,
      (λ passes rows gave took fed.
          let did = c.accept-spare.ensures in
          fed_take c.put_next.new.self c.accept-spare.new.self c.in-Some.row did.channel did.rows did.to_put did.to_take did.next did.stray some passes rows gave took
          (subst (λ (f : FeederModel). MayHaveFed f passes rows gave took) (sym rests.1) fed)),
      subst (λ (f : FeederModel). f.to_put < f.to_take) rests.1 some,
      c.if-put_next.ensures.ready refl,
      rw rests.1 at c.accept-spare.ensures.given_if_kept,
    )

pub returns-then-self-eq0-clause-whole : goal.returns-then-self-eq0-clause-whole
returns-then-self-eq0-clause-whole g c = λ closed.
    subst (λ (f : FeederModel). IsLattice g.G.Gas.rules f.channel f.rows) c.self.view_is
    (queue_closed g.G.Gas.rules c.self.inside.channel c.self.inside.rows.items c.self.inside.to_put c.self.inside.to_take c.self.inside.next
    c.self.invariant.queue c.self.invariant.put_first (ap (λ (f : FeederModel). f.to_take) c.self.view_is ∙ closed))

pub returns-clause-whole : goal.returns-clause-whole
returns-clause-whole g c = λ closed.
    c.accept-spare.ensures.whole closed

pub returns-clause-never_ahead : goal.returns-clause-never_ahead
returns-clause-never_ahead g c = λ _ passes rows gave took fed.
    let rests = c.if-put_next.ensures.unchanged refl in
    let inside : c.self-2.inside.to_put < c.self-2.inside.to_take = omega (arith, c.self-2.invariant.put_first, c.if-self-2.false) in
    let some = subst (λ (f : FeederModel). f.to_put < f.to_take) (c.self-2.view_is ∙ rests.1) inside in
    omega (arith, fed.puts, fed.takes, some)
