use Rattle.std.proofs.Common.{◌∷◌, ◌-◌, [], Option, Some, None, List, ℕ, length, replicate, subst, sym, ◌∙◌, ap}
use Rattle.gas_stage.specs.Stages.{MayAllHaveBeenFed}
use Rattle.gas_pipe_members.specs.Worker.{WorkerModel}
use Rattle.gas_pipe_members.proofs.Composed.{one_computes, none_computes}
use Rattle.gas_pipe_members.proofs.Workers.{begins}
use Rattle.gas_pipe_members.proofs.worker.Worker.begin.Goals as goal

pub returns-in-Some-clause-nothing_done : goal.returns-in-Some-clause-nothing_done
returns-in-Some-clause-nothing_done g c =
    begins g.G.Gas.rules _ c.args.self.now c.begin.new.self _
    c.self.view_is c.requires.closed c.self.invariant.stray_in_pass c.self.invariant.some c.begin.ensures.count c.begin.ensures.none_flushed
    (subst (λ (l : List (Option ℕ)). MayAllHaveBeenFed g.G.Gas.rules c.begin.new.self l [])
    (one_computes c.in-Some.generation _ c.self.invariant.some
    ∙ ap (λ (w : WorkerModel). Some c.in-Some.generation ∷ replicate (length w.stages.stages - 1) None) c.self.view_is
    ∙ ap (λ (e : Option ℕ). e ∷ replicate (length c.args.self.now.stages.stages - 1) None) (sym c.in-Some.is)) c.begin.ensures.fits)

pub returns-in-None-clause-nothing_done : goal.returns-in-None-clause-nothing_done
returns-in-None-clause-nothing_done g c =
    begins g.G.Gas.rules _ c.args.self.now c.begin-in-None.new.self _
    c.self.view_is c.requires.closed c.self.invariant.stray_in_pass c.self.invariant.some c.begin-in-None.ensures.count c.begin-in-None.ensures.none_flushed
    (subst (λ (l : List (Option ℕ)). MayAllHaveBeenFed g.G.Gas.rules c.begin-in-None.new.self l [])
    (none_computes _ c.self.invariant.some
    ∙ ap (λ (w : WorkerModel). None ∷ replicate (length w.stages.stages - 1) None) c.self.view_is
    ∙ ap (λ (e : Option ℕ). e ∷ replicate (length c.args.self.now.stages.stages - 1) None) (sym c.in-None.is)) c.begin-in-None.ensures.fits)
