use Rattle.std.proofs.Common.{sym, subst}
use Rattle.gas_pipe.specs.Inner.Feeder.{LineFeederModel, HasFed}
use Rattle.gas_pipe.proofs.Feeders.{fed_took, fed_put}
use Rattle.gas_pipe.proofs.crew.LineFeeder.turn.Goals as goal
use Rattle.gas_pipe.proofs.crew.LineFeeder.turn.Goals.{in-Took, in-Put, in-Done, in-Idle}

pub returns-clause-fed : goal.returns-clause-fed
returns-clause-fed g c input fed =
    let was = subst (λ (f : LineFeederModel). HasFed g.G.Gas.rules input f) (sym c.self.view_is) fed in
    let turned = c.turn.new in
    let same = c.turn.ensures.channel in
    elim c.match-turn.branch [
      | in-Took w ↦
          let did = w.in-Took.ensures.turned in
          fed_took was turned.self turned.take turned.put same did.0 did.1.0 did.1.1 did.1.2 did.2 did.3 did.4 did.6 c.self.invariant.rx_wide
      | in-Put w ↦
          let did = w.in-Put.ensures.turned in
          fed_put was turned.self turned.take turned.put same did.0 did.1.0 did.1.1 did.1.2 did.2 did.3 c.self.invariant.tx_wide
      | in-Done w ↦ let did = w.in-Done.ensures.turned in rw (did.2, did.1, did.0) was
      | in-Idle w ↦ let did = w.in-Idle.ensures.turned in rw (did.2, did.1, did.0) was
    ]
