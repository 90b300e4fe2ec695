use Rattle.std.proofs.Common.{◌+◌, ◌<◌, List, [], ◌∙◌, ap, sym, subst}
use Rattle.gas_geom.specs.Channel.{ChannelModel}
use Rattle.gas_geom.specs.Lattice.{IsLattice}
use Rattle.gas_rows.specs.Row.{RowModel}
use Rattle.gas_pipe_model.specs.Pass.{RunInputModel, IsRunInput}
use Rattle.gas_pipe_model.proofs.Generations.{begins_first}
use Rattle.gas_pipe_members.specs.Feeder.{MayHaveFed}
use Rattle.gas_pipe_replay.specs.Inner.LocalLine.{AreUnused}
use Rattle.gas_pipe_replay.proofs.Begun.{begun_shows}
use Rattle.gas_pipe_replay.proofs.local_line.LocalLine.new.Goals as goal

pub returns : goal.returns
returns g c =
    let input = c.args.input.now in
    let from = c.in_ok-feeder.ensures in
    let channel = from.channel ∙ ap (λ (q : RunInputModel). q.lattice.channel) c.input.view_is in
    let rows = from.rows ∙ ap (λ (q : RunInputModel). q.lattice.rows) c.input.view_is in
    let is : IsRunInput g.G.Gas.rules input =
    record {
      lattice = subst (λ (r : List RowModel). IsLattice g.G.Gas.rules input.lattice.channel r) rows
          (subst (λ (x : ChannelModel). IsLattice g.G.Gas.rules x c.in_ok-feeder.feeder.rows) channel from.whole);
      workers = c.begin_workers.ensures.some;
      room = subst (λ (q : RunInputModel). 0 < q.plan.capacity) c.input.view_is c.make_belts.ensures.some;
    } in
    record {
      input = is;
      begun =
          begun_shows g.G.Gas.rules input c.begin.new.self c.in_ok-begin_workers.field-0.items c.in_ok-make_belts.field-0.items is
          c.in_ok-begin_workers.ensures.begun
          (subst (λ (q : RunInputModel). AreUnused q.plan.capacity c.in_ok-make_belts.field-0.items (q.plan.threads + 1)) c.input.view_is c.in_ok-make_belts.ensures.unused)
          (c.begin.ensures.channel ∙ channel)
          (subst (λ (r : List RowModel). MayHaveFed c.begin.new.self 1 r [] []) (rows ∙ sym (begins_first g.G.Gas.rules input c.begin_workers.ensures.some)) c.begin.ensures.nothing_done);
    }
