use Rattle.std.proofs.Common.{refl, ◌∙◌, ◌<◌, subst, ap, sym, arith}
use Rattle.gas_pipe_members.specs.Worker.{WorkerModel, MayHaveDone}
use Rattle.gas_pipe_members.proofs.Workers.{accepted}
use Rattle.gas_pipe_members.proofs.worker.Worker.accept.Goals as goal

pub returns-clause-took : goal.returns-clause-took
returns-clause-took g c es took gave done =
    let gas = g.G.Gas.rules in
    let was : WorkerModel = record { stages = c.self.inside.stages; waiting = c.self.inside.waiting; stray = c.self.inside.stray } in
    let did = subst (λ (w : WorkerModel). MayHaveDone gas w es took gave) (sym c.self.view_is) done in
    accepted gas was (record { stages = c.feed.new.self; waiting = c.feed.result; stray = c.self.inside.stray }) c.args.row es took gave did
    refl c.feed.ensures.channel c.feed.ensures.chirality (ap (λ (w : WorkerModel). w.waiting) c.self.view_is ∙ c.requires.none_waits) c.feed.ensures.none_flushed
    (omega (arith, c.feed.ensures.count, c.self.invariant.some))
    (subst (λ (w : WorkerModel). w.stages.fed < w.stages.channel.height) (sym c.self.view_is) c.requires.room)
    (c.feed.ensures.fits es took did.fed) (c.feed.ensures.gives es took did.fed)
