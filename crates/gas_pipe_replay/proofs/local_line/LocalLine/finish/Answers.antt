use Rattle.std.proofs.Common.{Some, refl, ap, ◌∙◌}
use Rattle.std.proofs.lemmas.Bool.{both_ways}
use Rattle.gas_geom.specs.Lattice.{LatticeModel}
use Rattle.gas_pipe_model.specs.Pass.{rows_on}
use Rattle.gas_pipe_model.proofs.Generations.{same_lattice}
use Rattle.gas_pipe_replay.proofs.Finished.{finished, unfinished}
use Rattle.gas_pipe_replay.proofs.local_line.LocalLine.finish.Goals as goal

pub returns-then-is_closed : goal.returns-then-is_closed
returns-then-is_closed g c input turns sh =
    let chain = c.args.self in
    let over = c.is_closed.ensures.closed.0 c.if-is_closed.true in
    let end = finished g.G.Gas.rules input chain.feeder chain.workers.items chain.belts.items turns g.met.G.Gas.laws sh over in
    rw end.0
    (ap (λ (l : LatticeModel). Some l)
    (same_lattice c.finish.result input.lattice.channel (rows_on g.G.Gas.rules input 0 input.plan.threads) (c.finish.ensures.channel ∙ sh.channel) (c.finish.ensures.rows ∙ end.1)))

pub returns-else-is_closed : goal.returns-else-is_closed
returns-else-is_closed g c input turns sh =
    let chain = c.args.self in
    rw (unfinished g.G.Gas.rules input chain.feeder chain.workers.items chain.belts.items turns g.met.G.Gas.laws sh
    (λ over. both_ways c.is_closed.result c.if-is_closed.false (c.is_closed.ensures.closed.1 over))) refl
