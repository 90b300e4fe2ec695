use Rattle.std.proofs.Common.{ℕ, [], length, ap, subst}
use Rattle.gas_stage.specs.Stages.{passes_from, MayAllHaveBeenFed}
use Rattle.gas_pipe_members.specs.Worker.{WorkerModel}
use Rattle.gas_pipe_members.proofs.Workers.{begins}
use Rattle.gas_pipe_members.proofs.worker.Worker.begin_stages.Goals as goal

pub returns-clause-nothing_done : goal.returns-clause-nothing_done
returns-clause-nothing_done g c =
    begins g.G.Gas.rules _ c.args.self.now c.begin.new.self (passes_from c.args.first c.args.computing (length c.args.self.now.stages.stages))
    c.self.view_is c.requires.closed c.self.invariant.stray_in_pass c.self.invariant.some c.begin.ensures.count c.begin.ensures.none_flushed
    (subst (λ (k : ℕ). MayAllHaveBeenFed g.G.Gas.rules c.begin.new.self (passes_from c.args.first c.args.computing k) [])
    (ap (λ (w : WorkerModel). length w.stages.stages) c.self.view_is) c.begin.ensures.fits)
